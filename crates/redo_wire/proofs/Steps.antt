-- Each step of the mailbox keeps its state valid.
use Rattle.std.proofs.Common.{◌≡◌, ◌≢◌, ℕ, ◌<◌, ◌≤◌, nat_eq, Bool, true, false, List, [], ◌∷◌, ◌++◌, if◌then◌else◌, length, refl, sym, ap, ◌∙◌, subst, inl, inr, arith}
use Rattle.std.specs.List.{AllByRecursion}
use Rattle.std.proofs.lemmas.Bool.{eq-eqb}
use Rattle.std.proofs.lemmas.Bool.Decides.{eqb_tells}
use Rattle.std.proofs.lemmas.List.{append_assoc, append-nil, length-append}
use Rattle.redo_wire.specs.declared.item.Item.{Item}
use Rattle.redo_wire.specs.Machine.{IsPrefix, IsValid, IsReached, IsSchedule, IsStep, ItemsUnchanged, Opens, Posts, State, Takes, last_of, items_of}

pub items_of-append : (sender : ℕ) (front behind : List Item)
    → items_of sender (front ++ behind) ≡ items_of sender front ++ items_of sender behind
items_of-append sender [] behind = refl
items_of-append sender (item ∷ front) behind = by (nat_eq item.sender sender) (items_of-append sender front behind)
  where
    by : (own : Bool) → items_of sender (front ++ behind) ≡ items_of sender front ++ items_of sender behind
        → (if own then item ∷ items_of sender (front ++ behind) else items_of sender (front ++ behind))
        ≡ (if own then item ∷ items_of sender front else items_of sender front) ++ items_of sender behind
    by true is = ap (λ items. item ∷ items) is
    by false is = is

pub items_of-own : (sender : ℕ) (item : Item) → item.sender ≡ sender → items_of sender (item ∷ []) ≡ item ∷ []
items_of-own sender item is = let own : nat_eq item.sender sender ≡ true = eq-eqb item.sender sender is in rw (own)

pub items_of-other : (sender : ℕ) (item : Item) → item.sender ≢ sender → items_of sender (item ∷ []) ≡ []
items_of-other sender item other = elim (eqb_tells item.sender sender) [
  | inl same ↦ absurd (other same.1)
  | inr apart ↦ let own : nat_eq item.sender sender ≡ false = apart.0 in rw (own)
]

pub all-append : (P : Item → Type 0) (front behind : List Item) → AllByRecursion P front → AllByRecursion P behind
    → AllByRecursion P (front ++ behind)
all-append P [] behind one two = two
all-append P (item ∷ front) behind one two = (one.0, all-append P front behind one.1 two)

none_behind : (front items : List Item) → items ≡ front → IsPrefix front items
none_behind front items is = ([], is ∙ sym (append-nil front))

module _ (capacity senders : ℕ) where
  pub lawful_opens : (state : State) → Opens state → IsValid capacity senders state
  lawful_opens state opens = record {
    all_of_each = λ sender. opens.2 sender ∙ sym (ap (items_of sender) none);
    of_senders = subst (AllByRecursion (λ (item : Item). item.sender < senders)) (sym none) tt;
    fits = omega (arith, ap length opens.1);
  }
    where
      none : state.taken ++ state.queued ≡ []
      none = λ i. opens.0 i ++ opens.1 i

  pub lawful_posts : (sender : ℕ) (item : Item) (before after : State) → sender < senders → Posts capacity sender item before after
      → IsValid capacity senders before → IsValid capacity senders after
  lawful_posts sender item before after below posts lawful = record {
    all_of_each = λ other. elim (eqb_tells sender other) [
      | inl same ↦
          ap after.posted (sym same.1) ∙ posts.posted
          ∙ ap (λ items. items ++ item ∷ []) (ap before.posted same.1 ∙ lawful.all_of_each other)
          ∙ ap (λ items. items_of other (before.taken ++ before.queued) ++ items) (sym (items_of-own other item (posts.own ∙ same.1)))
          ∙ behind other
      | inr apart ↦
          posts.others other (λ is. apart.1 (sym is)) ∙ lawful.all_of_each other
          ∙ sym (append-nil (items_of other (before.taken ++ before.queued)))
          ∙ ap (λ items. items_of other (before.taken ++ before.queued) ++ items)
          (sym (items_of-other other item (λ is. apart.1 (sym posts.own ∙ is)))) ∙ behind other
    ];
    of_senders =
        subst (AllByRecursion (λ (item : Item). item.sender < senders)) (sym whole)
        (all-append (λ (item : Item). item.sender < senders) (before.taken ++ before.queued) (item ∷ []) lawful.of_senders
        (subst (λ n. n < senders) (sym posts.own) below, tt));
    fits = let room = posts.room in omega (arith, room, ap length posts.queued, length-append before.queued (item ∷ []));
  }
    where
      whole : after.taken ++ after.queued ≡ (before.taken ++ before.queued) ++ item ∷ []
      whole = (λ i. posts.taken i ++ posts.queued i) ∙ sym (append_assoc before.taken before.queued (item ∷ []))

      behind : (other : ℕ) → items_of other (before.taken ++ before.queued) ++ items_of other (item ∷ [])
          ≡ items_of other (after.taken ++ after.queued)
      behind other = sym (items_of-append other (before.taken ++ before.queued) (item ∷ [])) ∙ ap (items_of other) (sym whole)

  pub lawful_takes : (item : Item) (before after : State) → Takes item before after → IsValid capacity senders before
      → IsValid capacity senders after
  lawful_takes item before after takes lawful = record {
    all_of_each = λ sender. takes.posted sender ∙ lawful.all_of_each sender ∙ ap (items_of sender) (sym whole);
    of_senders = subst (AllByRecursion (λ (item : Item). item.sender < senders)) (sym whole) lawful.of_senders;
    fits = let fits = lawful.fits in omega (arith, fits, ap length takes.queued);
  }
    where
      whole : after.taken ++ after.queued ≡ before.taken ++ before.queued
      whole = ap (λ taken. taken ++ after.queued) takes.taken ∙ append_assoc before.taken (item ∷ []) after.queued
          ∙ ap (λ queued. before.taken ++ queued) (sym takes.queued)

  lawful_keeps : (before after : State) → ItemsUnchanged before after → IsValid capacity senders before → IsValid capacity senders after
  lawful_keeps before after keeps lawful = record {
    all_of_each = λ sender. keeps.2 sender ∙ lawful.all_of_each sender ∙ ap (items_of sender) (sym whole);
    of_senders = subst (AllByRecursion (λ (item : Item). item.sender < senders)) (sym whole) lawful.of_senders;
    fits = let fits = lawful.fits in omega (arith, fits, ap length keeps.1);
  }
    where
      whole : after.taken ++ after.queued ≡ before.taken ++ before.queued
      whole = λ i. keeps.0 i ++ keeps.1 i

  pub lawful_step : (before after : State) → IsStep capacity senders before after → IsValid capacity senders before
      → IsValid capacity senders after
  lawful_step before after (inl splits) lawful = lawful_keeps before after splits.items lawful
  lawful_step before after (inr (inl posts)) lawful = lawful_posts posts.0 posts.1 before after posts.2 posts.4 lawful
  lawful_step before after (inr (inr (inl takes))) lawful = lawful_takes takes.0 before after takes.1 lawful
  lawful_step before after (inr (inr (inr (inl nothing)))) lawful = subst (IsValid capacity senders) (sym nothing.1) lawful
  lawful_step before after (inr (inr (inr (inr meets)))) lawful = lawful_keeps before after meets.1.items lawful

  pub lawful_schedule : (first : State) (states : List State) → IsValid capacity senders first → IsSchedule capacity senders first states
      → AllByRecursion (IsValid capacity senders) states
  lawful_schedule first [] lawful schedule = tt
  lawful_schedule first (after ∷ states) lawful schedule =
      let now = lawful_step first after schedule.0 lawful in (now, lawful_schedule after states now schedule.1)

  -- ---- the order of the items

  pub keeps_order : (before after : State) → IsStep capacity senders before after
      → IsPrefix (before.taken ++ before.queued) (after.taken ++ after.queued)
  keeps_order before after (inl splits) =
      none_behind (before.taken ++ before.queued) (after.taken ++ after.queued) (λ i. splits.items.0 i ++ splits.items.1 i)
  keeps_order before after (inr (inl posts)) =
      (posts.1 ∷ [], (λ i. posts.4.taken i ++ posts.4.queued i) ∙ sym (append_assoc before.taken before.queued (posts.1 ∷ [])))
  keeps_order before after (inr (inr (inl takes))) =
      none_behind (before.taken ++ before.queued) (after.taken ++ after.queued) (
      ap (λ taken. taken ++ after.queued) takes.1.taken ∙ append_assoc before.taken (takes.0 ∷ []) after.queued
      ∙ ap (λ queued. before.taken ++ queued) (sym takes.1.queued)
      )
  keeps_order before after (inr (inr (inr (inl nothing)))) =
      none_behind (before.taken ++ before.queued) (after.taken ++ after.queued)
      (ap (λ (state : State). state.taken ++ state.queued) nothing.1)
  keeps_order before after (inr (inr (inr (inr meets)))) =
      none_behind (before.taken ++ before.queued) (after.taken ++ after.queued) (λ i. meets.1.items.0 i ++ meets.1.items.1 i)

  pub keeps_taken : (before after : State) → IsStep capacity senders before after → IsPrefix before.taken after.taken
  keeps_taken before after (inl splits) = none_behind before.taken after.taken splits.items.0
  keeps_taken before after (inr (inl posts)) = none_behind before.taken after.taken posts.4.taken
  keeps_taken before after (inr (inr (inl takes))) = (takes.0 ∷ [], takes.1.taken)
  keeps_taken before after (inr (inr (inr (inl nothing)))) =
      none_behind before.taken after.taken (ap (λ (state : State). state.taken) nothing.1)
  keeps_taken before after (inr (inr (inr (inr meets)))) = none_behind before.taken after.taken meets.1.items.0

  -- ---- the states that schedules lead to

  lawful_last : (first : State) (states : List State) → IsValid capacity senders first → IsSchedule capacity senders first states
      → IsValid capacity senders (last_of first states)
  lawful_last first [] lawful schedule = lawful
  lawful_last first (after ∷ states) lawful schedule = lawful_last after states (lawful_step first after schedule.0 lawful) schedule.1

  pub lawful_reached : (state : State) → IsReached capacity senders state → IsValid capacity senders state
  lawful_reached state reached =
      subst (IsValid capacity senders) reached.last
      (lawful_last reached.first reached.states (lawful_opens reached.first reached.opens) reached.schedule)

  -- No more ends are made than there are senders.
  made_step : (before after : State) → IsStep capacity senders before after → before.made ≤ senders → after.made ≤ senders
  made_step before after (inl splits) within = let unmade = splits.unmade in let made = splits.made in omega (arith, unmade, made)
  made_step before after (inr (inl posts)) within = omega (arith, within, posts.4.ends.0)
  made_step before after (inr (inr (inl takes))) within = omega (arith, within, takes.1.ends.0)
  made_step before after (inr (inr (inr (inl nothing)))) within = omega (arith, within, ap (λ (state : State). state.made) nothing.1)
  made_step before after (inr (inr (inr (inr meets)))) within = let made = meets.1.made in omega (arith, within, made)

  made_last : (first : State) (states : List State) → first.made ≤ senders → IsSchedule capacity senders first states
      → (last_of first states).made ≤ senders
  made_last first [] within schedule = within
  made_last first (after ∷ states) within schedule = made_last after states (made_step first after schedule.0 within) schedule.1

  pub made_reached : (state : State) → IsReached capacity senders state → state.made ≤ senders
  made_reached state reached =
      subst (λ (state : State). state.made ≤ senders) reached.last
      (made_last reached.first reached.states (let none = reached.opens.3 in omega (arith, none)) reached.schedule)

  longer : (first : State) (states : List State) (after : State) → IsSchedule capacity senders first states
      → IsStep capacity senders (last_of first states) after
      → IsSchedule capacity senders first (states ++ after ∷ [])
  longer first [] after schedule step = (step, tt)
  longer first (next ∷ states) after schedule step = (schedule.0, longer next states after schedule.1 step)

  last_longer : (first : State) (states : List State) (after : State) → last_of first (states ++ after ∷ []) ≡ after
  last_longer first [] after = refl
  last_longer first (next ∷ states) after = last_longer next states after

  pub reached_first : (state : State) → Opens state → IsReached capacity senders state
  reached_first state opens = record { first = state; states = []; opens = opens; schedule = tt; last = refl }

  -- A schedule, continued by one step.
  pub reached_next : (before after : State) → IsReached capacity senders before → IsStep capacity senders before after
      → IsReached capacity senders after
  reached_next before after reached step = record {
    first = reached.first;
    states = reached.states ++ after ∷ [];
    opens = reached.opens;
    schedule = longer reached.first reached.states after reached.schedule
        (subst (λ state. IsStep capacity senders state after) (sym reached.last) step);
    last = last_longer reached.first reached.states after;
  }
