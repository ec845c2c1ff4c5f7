-- The states that the steps of the mailbox lead to, and the conditions of the steps.
use Rattle.std.proofs.Common.{◌≡◌, ℕ, ◌+◌, ◌<◌, List, [], ◌∷◌, ◌++◌, length, refl, sym, ap, subst, ◌∙◌, inl, inr, arith}
use Rattle.std.proofs.lemmas.Bool.Decides.{eqb_tells}
use Rattle.std.proofs.lemmas.List.{append-nil, length-append}
use Rattle.redo_wire.specs.declared.item.Item.{Item}
use Rattle.redo_wire.specs.Machine.{IsStep, IsLive, Meets, Posts, AddsEnd, State, Takes, items_of}
use Rattle.redo_wire.proofs.Steps.{items_of-other, items_of-own}

module _ (capacity senders : ℕ) where
  pub can_split : (before : State) → before.made < senders → before.posted before.made ≡ []
      → (after : State) × (after.made ≡ before.made + 1) × IsStep capacity senders before after
  can_split before unmade none = (
    record { taken = before.taken; queued = before.queued; posted = before.posted; made = before.made + 1; met = before.met },
    refl,
    inl (record { unmade = unmade; none_posted = none; made = refl; met = refl; items = (refl, refl, λ sender. refl) }),
  )

  pub can_post : (item : Item) (before : State) → item.sender < senders → IsLive item.sender before → length before.queued < capacity
      → (after : State) × (after.queued ≡ before.queued ++ item ∷ []) × (after.posted item.sender ≡ before.posted item.sender ++ item ∷ [])
      × IsStep capacity senders before after
  can_post item before below there room = (
    after,
    refl,
    posted,
    inr (inl (
      item.sender,
      item,
      below,
      there,
      record { own = refl; room = room; taken = refl; queued = refl; posted = posted; others = others; ends = (refl, refl) },
    )),
  )
    where
      after : State
      after = record {
        taken = before.taken;
        queued = before.queued ++ item ∷ [];
        posted = λ sender. before.posted sender ++ items_of sender (item ∷ []);
        made = before.made;
        met = before.met;
      }

      posted : after.posted item.sender ≡ before.posted item.sender ++ item ∷ []
      posted = ap (λ items. before.posted item.sender ++ items) (items_of-own item.sender item refl)

      others : (other : ℕ) → (other ≡ item.sender → ⊥) → after.posted other ≡ before.posted other
      others other differ = ap (λ items. before.posted other ++ items) (items_of-other other item (λ is. differ (sym is)))
          ∙ append-nil (before.posted other)

  pub can_take : (item : Item) (behind : List Item) (before : State) → before.queued ≡ item ∷ behind
      → (after : State) × (after.taken ≡ before.taken ++ item ∷ []) × (after.queued ≡ behind) × IsStep capacity senders before after
  can_take item behind before queued = (
    record { taken = before.taken ++ item ∷ []; queued = behind; posted = before.posted; made = before.made; met = before.met },
    refl,
    refl,
    inr (inr (inl (item, record { queued = queued; taken = refl; posted = λ sender. refl; ends = (refl, refl) }))),
  )

  pub can_find_nothing : (before : State) → before.queued ≡ [] → IsStep capacity senders before before
  can_find_nothing before none = inr (inr (inr (inl (none, refl))))

  pub can_meet : (sender : ℕ) (before : State) → IsLive sender before
      → (after : State) × (after.met ≡ sender ∷ before.met) × IsStep capacity senders before after
  can_meet sender before there = (
    record { taken = before.taken; queued = before.queued; posted = before.posted; made = before.made; met = sender ∷ before.met },
    refl,
    inr (inr (inr (inr (sender, record { there = there; made = refl; met = refl; items = (refl, refl, λ sender. refl) })))),
  )

-- ---- one state after a step

pub one_split : (senders : ℕ) (before one other : State) → AddsEnd senders before one → AddsEnd senders before other → one ≡ other
one_split senders before one other first second = λ i. record {
  taken = (first.items.0 ∙ sym second.items.0) i;
  queued = (first.items.1 ∙ sym second.items.1) i;
  posted = λ sender. (first.items.2 sender ∙ sym (second.items.2 sender)) i;
  made = (first.made ∙ sym second.made) i;
  met = (first.met ∙ sym second.met) i;
}

pub one_post : (capacity sender : ℕ) (item : Item) (before one other : State) → Posts capacity sender item before one
    → Posts capacity sender item before other → one ≡ other
one_post capacity sender item before one other first second = λ i. record {
  taken = (first.taken ∙ sym second.taken) i;
  queued = (first.queued ∙ sym second.queued) i;
  posted = λ of_one. posted of_one i;
  made = (first.ends.0 ∙ sym second.ends.0) i;
  met = (first.ends.1 ∙ sym second.ends.1) i;
}
  where
    posted : (number : ℕ) → one.posted number ≡ other.posted number
    posted number = elim (eqb_tells number sender) [
      | inl same ↦ ap one.posted same.1 ∙ first.posted ∙ sym second.posted ∙ sym (ap other.posted same.1)
      | inr apart ↦ first.others number apart.1 ∙ sym (second.others number apart.1)
    ]

pub one_take : (item found : Item) (before one other : State) → Takes item before one → Takes found before other → one ≡ other
one_take item found before one other first second = λ i. record {
  taken = (first.taken ∙ ap (λ x. before.taken ++ x ∷ []) same_item ∙ sym second.taken) i;
  queued = same_queue i;
  posted = λ sender. (first.posted sender ∙ sym (second.posted sender)) i;
  made = (first.ends.0 ∙ sym second.ends.0) i;
  met = (first.ends.1 ∙ sym second.ends.1) i;
}
  where
    both : item ∷ one.queued ≡ found ∷ other.queued
    both = sym first.queued ∙ second.queued

    same_item : item ≡ found
    same_item = let is = both in cc

    same_queue : one.queued ≡ other.queued
    same_queue = let is = both in cc

pub one_meet : (sender : ℕ) (before one other : State) → Meets sender before one → Meets sender before other → one ≡ other
one_meet sender before one other first second = λ i. record {
  taken = (first.items.0 ∙ sym second.items.0) i;
  queued = (first.items.1 ∙ sym second.items.1) i;
  posted = λ number. (first.items.2 number ∙ sym (second.items.2 number)) i;
  made = (first.made ∙ sym second.made) i;
  met = (first.met ∙ sym second.met) i;
}

-- ---- conditions of steps

-- A list differs from a list that has one more item.
no_longer : {X : Type 0} (x : X) (xs : List X) → xs ≡ x ∷ xs → ⊥
no_longer x xs is = omega (arith, ap length is)

module _ (capacity senders : ℕ) where
  pub nothing_queued : (state : State) → IsStep capacity senders state state → state.queued ≡ []
  nothing_queued state (inl splits) = absurd (let made = splits.made in omega (arith, made))
  nothing_queued state (inr (inl posts)) = absurd (omega (arith, ap length posts.4.queued, length-append state.queued (posts.1 ∷ [])))
  nothing_queued state (inr (inr (inl takes))) = absurd (no_longer takes.0 state.queued takes.1.queued)
  nothing_queued state (inr (inr (inr (inl nothing)))) = nothing.0
  nothing_queued state (inr (inr (inr (inr meets)))) = absurd (no_longer meets.0 state.met meets.1.met)

  pub posts_while_there : (sender : ℕ) (before after : State) → IsStep capacity senders before after → (IsLive sender before → ⊥)
      → after.posted sender ≡ before.posted sender
  posts_while_there sender before after (inl splits) away = splits.items.2 sender
  posts_while_there sender before after (inr (inl posts)) away =
      posts.4.others sender (λ same. away (subst (λ number. IsLive number before) (sym same) posts.3))
  posts_while_there sender before after (inr (inr (inl takes))) away = takes.1.posted sender
  posts_while_there sender before after (inr (inr (inr (inl nothing)))) away = ap (λ state. state.posted sender) nothing.1
  posts_while_there sender before after (inr (inr (inr (inr meets)))) away = meets.1.items.2 sender
