-- The steps of a pass whose view is known, and the knowledge after them, as contracts state it.
use Rattle.std.proofs.Common.{◌≡◌, ℕ, ◌<◌, Bool, true, List, [], ◌∷◌, ◌++◌, length, slice_set, refl, sym, ap, subst, ◌∙◌, arith}
use Rattle.std.specs.Bool.{⊤}
use Rattle.std.specs.List.{AllByRecursion}
use Rattle.std.proofs.lemmas.List.{append-nil, length-set}
use Rattle.atomic_table.specs.declared.badge.Badge.{Badge}
use Rattle.crossbeam_channel.specs.declared.flavors.array.Doing.{Doing}
use Rattle.crossbeam_channel.specs.declared.flavors.array.Key.{Key}
use Rattle.crossbeam_channel.specs.declared.flavors.array.Rows.{Rows}
use Rattle.crossbeam_channel.specs.declared.flavors.array.ruled.Receiving.{Receiving}
use Rattle.crossbeam_channel.specs.declared.flavors.array.ruled.Sending.{Sending}
use Rattle.crossbeam_channel.specs.Claims.{IsSeatAt, Pass, view}
use Rattle.crossbeam_channel.specs.Ends.{sends_on}
use Rattle.crossbeam_channel.specs.Fifo.{Held, Learns, Merges, Pops, Pushes}
use Rattle.redo_wire.specs.declared.item.Item.{Item}
use Rattle.redo_wire.specs.declared.rule.View.{View}
use Rattle.redo_wire.specs.declared.rule.View.TheVariants.{Idle, Starting, Posting, Taking}
use Rattle.redo_wire.specs.Machine.{FindsEmpty, IsPrefix, IsReached, IsLive, Posts, State, items_of}
use Rattle.redo_wire.specs.Mailbox.{AreDistinct, IsMet, PostsByStep, Met, Observes}
use Rattle.redo_wire.specs.Private.Ends.{IsCollector, IsPoster, capacity_in, items_in, mailbox_of, met_in, number_in, poster_of, senders_in}
use Rattle.redo_wire.specs.Private.Rule.{KnowsMet, KnowsOf, KnowsPost, KnowsState, KnowsStep, Invariant, with_got, with_met, with_put}
use Rattle.redo_wire.proofs.Counting.{not_among}
use Rattle.redo_wire.proofs.Flags.{Tell, one_set}
use Rattle.redo_wire.proofs.Moves.{gets, learns, meets, puts}
use Rattle.redo_wire.proofs.Steps.{items_of-append}

-- ---- steps

pub puts_at : (room senders number pass : ℕ) (put : List Item) (item : Item) (view : View) → view ≡ Posting room senders number put
    → item.sender ≡ number
    → Pushes Invariant room pass view item (λ after. (after ≡ with_put item view) × KnowsPost view item after)
    × Learns Invariant pass view (λ items. ⊤)
puts_at room senders number pass put item view is own =
    subst (λ v. Pushes Invariant room pass v item (λ after. (after ≡ with_put item v) × KnowsPost v item after)
    × Learns Invariant pass v (λ items. ⊤)) (sym is)
    (puts room room senders number pass put item own refl, λ items views rules at. tt)

pub gets_at : (capacity senders made pass : ℕ) (got : List Item) (met : List Met) (view : View)
    → view ≡ Taking capacity senders made got met
    → Pops Invariant pass view (λ item after. (after ≡ with_got item view) × KnowsMet after × KnowsStep view item after)
    × Learns Invariant pass view (KnowsOf view)
gets_at capacity senders made pass got met view is =
    subst (λ v. Pops Invariant pass v (λ item after. (after ≡ with_got item v) × KnowsMet after × KnowsStep v item after)
    × Learns Invariant pass v (KnowsOf v)) (sym is)
    (gets capacity senders made pass got met, learns capacity senders made pass got met)

pub learns_at : (capacity senders made pass : ℕ) (got : List Item) (met : List Met) (view : View)
    → view ≡ Taking capacity senders made got met → Learns Invariant pass view (KnowsOf view)
learns_at capacity senders made pass got met view is =
    subst (λ v. Learns Invariant pass v (KnowsOf v)) (sym is) (learns capacity senders made pass got met)

pub meets_at : (capacity senders made pass limit sized number other : ℕ) (got : List Item) (met : List Met) (put : List Item)
    (view end : View)
    → view ≡ Taking capacity senders made got met → end ≡ Posting limit sized number put
    → Merges Invariant pass view other end (with_met view end) Idle
meets_at capacity senders made pass limit sized number other got met put view end is end_is =
    subst (λ v. Merges Invariant pass v other end (with_met v end) Idle) (sym is)
    (subst (λ w. Merges Invariant pass (Taking capacity senders made got met) other w
    (with_met (Taking capacity senders made got met) w) Idle) (sym end_is)
    (meets capacity senders made pass limit sized number other got met put))

-- ---- knowledge

abbrev Fronts : List Item → List Met → Type 0
Fronts taken = AllByRecursion (λ (met : Met). IsPrefix (items_of met.0 taken) met.1)

abbrev Whole : List Item → List Met → Type 0
Whole taken = AllByRecursion (λ (met : Met). met.1 ≡ items_of met.0 taken)

pub fronts_met : (view : View) → KnowsMet view → Fronts (items_in view) (met_in view)
fronts_met Idle knows = tt
fronts_met Starting knows = tt
fronts_met (Posting capacity senders number put) knows = tt
fronts_met (Taking capacity senders made got met) knows = knows.0

-- If no item is held, each property of the held items holds for the empty list.
none_held : {P : List Item → Type 0} → Held 0 P → P []
none_held {P} (items, none, held) = subst P (empty items none) held
  where
    empty : (items : List Item) → length items ≡ 0 → items ≡ []
    empty [] none = refl
    empty (item ∷ items) none = absurd (omega (arith, none))

whole_of : (view : View) → KnowsOf view [] → Whole (items_in view) (met_in view)
whole_of Idle knows = absurd knows
whole_of Starting knows = absurd knows
whole_of (Posting capacity senders number put) knows = absurd knows
whole_of (Taking capacity senders made got met) knows = subst (λ items. Whole items met) (append-nil got) knows.0

abbrev Own : View → Type 0
Own view = AllByRecursion (λ (item : Item). item.sender < senders_in view) (items_in view)

fronts_of : (taken : List Item) (met : List Met) → Whole taken met → Fronts taken met
fronts_of taken [] whole = tt
fronts_of taken (met ∷ others) whole = (([], whole.0 ∙ sym (append-nil (items_of met.0 taken))), fronts_of taken others whole.1)

fronts_with : (taken items : List Item) (met : List Met) → Whole (taken ++ items) met → Fronts taken met
fronts_with taken items [] whole = tt
fronts_with taken items (met ∷ others) whole =
    ((items_of met.0 items, whole.0 ∙ items_of-append met.0 taken items), fronts_with taken items others whole.1)

pub fronts_known : (view : View) (items : List Item) → KnowsOf view items → Fronts (items_in view) (met_in view)
fronts_known Idle items knows = absurd knows
fronts_known Starting items knows = absurd knows
fronts_known (Posting capacity senders number put) items knows = absurd knows
fronts_known (Taking capacity senders made got met) items knows = fronts_with got items met knows.0

pub state_known : (view : View) (items : List Item) → KnowsOf view items → KnowsState view items
state_known Idle items knows = absurd knows
state_known Starting items knows = absurd knows
state_known (Posting capacity senders number put) items knows = absurd knows
state_known (Taking capacity senders made got met) items knows = knows.3

pub schedule_known : (view : View) (items : List Item) → KnowsOf view items
    → (state : State) × IsReached (capacity_in view) (senders_in view) state × Observes (items_in view) (met_in view) state
schedule_known view items knows = let known = state_known view items knows in (known.0, known.1, known.2)

-- If nothing was found.
module _ (before after : View) (same : after ≡ before) (held : Held 0 (KnowsOf before)) where
  pub whole_at_none : Whole (items_in after) (met_in after)
  whole_at_none = subst (λ v. Whole (items_in v) (met_in v)) (sym same) (whole_of before (none_held held))

  pub fronts_at_none : Fronts (items_in after) (met_in after)
  fronts_at_none = fronts_of (items_in after) (met_in after) whole_at_none

  pub step_at_none : (old new : State) × IsReached (capacity_in before) (senders_in before) old
      × Observes (items_in before) (met_in before) old × FindsEmpty old new
      × Observes (items_in after) (met_in after) new
  step_at_none =
      let known = state_known before [] (none_held held) in
      (known.0, known.0, known.1, known.2, (known.3, refl), subst (λ v. Observes (items_in v) (met_in v) known.0) (sym same) known.2)

  pub own_at_none : (capacity senders made : ℕ) (got : List Item) (met : List Met) → before ≡ Taking capacity senders made got met
      → Own after
  own_at_none capacity senders made got met is =
      subst Own (sym (same ∙ is)) (subst (AllByRecursion (λ (item : Item). item.sender < senders)) (append-nil got)
      (subst (λ v. KnowsOf v []) is (none_held held)).1)

-- If an item was put.
pub post_known : {Q M L A B : Type 0} (sender : Sending (Rows (Badge (Key Item)) (Doing Item View) Q M (Key Item) L A) B)
    (pass now : Pass Item View) (number : ℕ) (item : Item)
    → IsPoster sender pass number → KnowsPost (view pass) item (view now) → PostsByStep item (poster_of pass number) (poster_of now number)
post_known sender pass now number item poster knows =
    subst (λ n. (before after : State) × IsReached (capacity_in (view pass)) (senders_in (view pass)) before × IsLive n before
    × (items_in (view pass) ≡ before.posted n)
    × Posts (capacity_in (view pass)) n item before after × (items_in (view now) ≡ after.posted n)) (ap number_in poster.view_is) knows

-- ---- an end that was met

apart_known : (view : View) (items : List Item) → KnowsOf view items → AreDistinct (met_in view)
apart_known Idle items knows = absurd knows
apart_known Starting items knows = absurd knows
apart_known (Posting capacity senders number put) items knows = absurd knows
apart_known (Taking capacity senders made got met) items knows = knows.2

pub first_met : (view : View) (number : ℕ) (put : List Item) (others : List Met) → met_in view ≡ (number, put) ∷ others
    → (items : List Item) × KnowsOf view items → IsMet number others → ⊥
first_met view number put others is knows = not_among number others (subst AreDistinct is (apart_known view knows.0 knows.1)).0

module _ {Q M L A B : Type 0} (sender : Sending (Rows (Badge (Key Item)) (Doing Item View) Q M (Key Item) L A) B)
    (receiver : Receiving (Rows (Badge (Key Item)) (Doing Item View) Q M (Key Item) L A) B) (pass end : Pass Item View) (number : ℕ)
    (flags : List Bool)
    (collector : IsCollector receiver pass flags) (poster : IsPoster sender end number) where
  pub with_met_is : with_met (view pass) (view end)
      ≡ Taking (capacity_in (view pass)) (senders_in (view pass)) (senders_in (view pass)) (items_in (view pass))
      ((number, items_in (view end)) ∷ met_in (view pass))
  with_met_is = λ i. with_met (collector.view_is i) (poster.view_is i)

  module _ (now : Pass Item View) (is : view now ≡ with_met (view pass) (view end)) (seat : IsSeatAt (sends_on sender) now) where
    pub met_are : met_in (view now) ≡ (number, items_in (view end)) ∷ met_in (view pass)
    met_are = ap met_in (is ∙ with_met_is)

    pub collector_meets : mailbox_of end ≡ mailbox_of pass → IsCollector receiver now (slice_set flags number true)
    collector_meets one = record {
      seat = (
        seat.0 ∙ sym poster.seat.0 ∙ ap (λ m. m.table) one ∙ collector.seat.0,
        seat.1 ∙ sym poster.seat.1 ∙ ap (λ m. m.key) one ∙ collector.seat.1,
        seat.2,
        collector.seat.3,
      );
      view_is = subst (λ v. v ≡ Taking (capacity_in v) (senders_in v) (senders_in v) (items_in v) (met_in v)) (sym (is ∙ with_met_is)) refl;
      count = length-set flags number true ∙ collector.count ∙ sym (ap senders_in (is ∙ with_met_is));
      flags_are =
          subst (λ v. Tell (senders_in v) (slice_set flags number true) (met_in v)) (sym (is ∙ with_met_is))
          (one_set (senders_in (view pass)) flags (met_in (view pass)) (number, items_in (view end)) collector.count
          (subst (λ n. number < n) (ap (λ m. m.senders) one) poster.below) collector.flags_are);
    }

-- The lemmas for a call that posts.
pub ruleset posting = post_known

-- The lemmas for a call that takes.
pub ruleset taking = (fronts_met, fronts_at_none, whole_at_none, own_at_none, step_at_none)
