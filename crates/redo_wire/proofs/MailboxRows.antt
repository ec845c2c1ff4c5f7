-- Examples of the ends of a mailbox, computed: the first of its two senders posts twice, the second one once.
use Rattle.std.proofs.Common.{◌≡◌, ◌≢◌, ℕ, zero, suc, ◌<◌, ◌≤◌, nat_eq, Bool, true, false, List, [], ◌∷◌, ◌++◌, Some, if◌then◌else◌, length, slice_get, refl, sym, ap, subst, ◌∙◌, inl, inr, arith}
use Rattle.std.specs.List.{AllByRecursion}
use Rattle.std.proofs.lemmas.Bool.Decides.{eqb_tells}
use Rattle.std.proofs.lemmas.List.{length-append}
use Rattle.std.proofs.lemmas.Option.{none-some}
use Rattle.redo_wire.specs.declared.item.Item.{Item}
use Rattle.redo_wire.specs.declared.item.What.TheVariants.{End}
use Rattle.redo_wire.specs.Machine.{FindsEmpty, IsReached, IsSchedule, IsStep, State, Takes, last_of, items_of}
use Rattle.redo_wire.specs.Mailbox.{AreAllMet, AreDistinct, AreEndsOf, ArePrefixesOfMet, ArePending, AreFromSenders, AreMetFullyTaken, TakeEndState, HasSchedule, IsMet, IsOpened, MetEndsLeaveRoom, Mailbox, PostsByStep, MakesStep, Met, PostEndState, Observes, pending_count, after_meet, after_post, after_take}
use Rattle.redo_wire.proofs.MachineRows.{a, b, c, none_else, one_posted, opened, opens, reached, reached_ends, reached_opened, reached_two_left, the_first, third, two_ends, two_left, two_met}
use Rattle.redo_wire.proofs.Steps.{lawful_reached, lawful_takes, made_reached, items_of-append}

-- The met ends, after they posted everything. The second one was met last.
abbrev both : List Met
both = (1, b ∷ []) ∷ (0, a ∷ c ∷ []) ∷ []

left : (pending_count [] both ≡ 3) × (pending_count (a ∷ []) both ≡ 2) × (pending_count (a ∷ b ∷ []) both ≡ 1)
    × (pending_count (a ∷ b ∷ c ∷ []) both ≡ 0) × (pending_count [] [] ≡ 0)
left = (refl, refl, refl, refl, refl)

-- If more was taken of an end than it posted, nothing is left of it, and as much as before of the others.
left_of_each : pending_count (c ∷ c ∷ c ∷ []) both ≡ 1
left_of_each = refl

among : IsMet 0 both × IsMet 1 both
among = (inr (inl refl), inl refl)

not_among : IsMet 2 both → ⊥
not_among (inl same) = omega (arith, same)
not_among (inr (inl same)) = omega (arith, same)
not_among (inr (inr none)) = none

apart : AreDistinct both
apart = ((λ same. omega (arith, same), tt), (tt, tt))

not_apart : AreDistinct ((0, []) ∷ (1, []) ∷ (0, []) ∷ []) → ⊥
not_apart are = are.0.1.0 refl

not_apart_behind : AreDistinct ((1, []) ∷ (0, []) ∷ (0, []) ∷ []) → ⊥
not_apart_behind are = are.1.0.0 refl

-- The view that the take end has of the machine's last state.
shows : Observes (a ∷ b ∷ []) ((0, a ∷ []) ∷ (1, b ∷ []) ∷ []) two_met
shows = (refl, refl, (refl, (refl, tt)))

not_shown_less : Observes (a ∷ []) ((0, a ∷ []) ∷ (1, b ∷ []) ∷ []) two_met → ⊥
not_shown_less shown = let is = ap length shown.0 in omega (arith, is)

not_shown_fewer : Observes (a ∷ b ∷ []) ((0, a ∷ []) ∷ []) two_met → ⊥
not_shown_fewer shown = let is = ap length shown.1 in omega (arith, is)

not_shown_shorter : Observes (a ∷ b ∷ []) ((0, []) ∷ (1, b ∷ []) ∷ []) two_met → ⊥
not_shown_shorter shown = let is = ap length shown.2.0 in omega (arith, is)

not_shown_shorter_behind : Observes (a ∷ b ∷ []) ((0, a ∷ []) ∷ (1, []) ∷ []) two_met → ⊥
not_shown_shorter_behind shown = let is = ap length shown.2.1.0 in omega (arith, is)

-- Nor as many items or ends in another order, more items than an end posted, or as many others.
first_number : (m n : ℕ) (ms ns : List ℕ) → m ∷ ms ≡ n ∷ ns → m ≡ n
first_number m n ms ns is = cc

not_shown_in_another_order : Observes (b ∷ a ∷ []) ((0, a ∷ []) ∷ (1, b ∷ []) ∷ []) two_met → ⊥
not_shown_in_another_order shown = omega (arith, ap (λ (item : Item). item.sender) (the_first b a (a ∷ []) (b ∷ []) shown.0))

not_ends_in_another_order : Observes (a ∷ b ∷ []) ((1, b ∷ []) ∷ (0, a ∷ []) ∷ []) two_met → ⊥
not_ends_in_another_order shown = omega (arith, first_number 1 0 (0 ∷ []) (1 ∷ []) shown.1)

not_shown_longer : Observes (a ∷ b ∷ []) ((0, a ∷ c ∷ []) ∷ (1, b ∷ []) ∷ []) two_met → ⊥
not_shown_longer shown = let is = ap length shown.2.0 in omega (arith, is)

not_shown_otherwise : Observes (a ∷ b ∷ []) ((0, c ∷ []) ∷ (1, b ∷ []) ∷ []) two_met → ⊥
not_shown_otherwise shown = omega (arith, ap (λ (item : Item). item.stream) (the_first c a [] [] shown.2.0))

-- No item of the second end is among the items of the first.
none_of_first : (items : List Item) → b ∷ [] ≡ items_of 0 items → ⊥
none_of_first [] is = omega (arith, ap length is)
none_of_first (item ∷ items) is = elim (eqb_tells item.sender 0) [
  | inl same ↦
      let own : b ∷ [] ≡ item ∷ items_of 0 items = is ∙ ap (λ own. if own then item ∷ items_of 0 items else items_of 0 items) same.0 in
      omega (arith, same.1, ap (λ (item : Item). item.sender) (the_first b item [] (items_of 0 items) own))
  | inr apart ↦ none_of_first items (is ∙ ap (λ own. if own then item ∷ items_of 0 items else items_of 0 items) apart.0)
]

abbrev mailbox : ℕ → Mailbox
mailbox capacity =
    record {
      table = record { words = 0; slots = 0; views_name = 0; atom = 0; block = 0; offset = 0; slot_names = [] };
      key = record {
        marker = record {};
        table_id = record { words = 0; slots = 0; views_name = 0; atom = 0; block = 0; offset = 0; slot_names = [] };
        id = 0;
        views = [];
      };
      capacity = capacity;
      senders = 2;
    }

abbrev poster : ℕ → List Item → PostEndState
poster number posted = record { mailbox = mailbox 2; number = number; posted = posted }

abbrev collector : ℕ → List Item → List Met → TakeEndState
collector capacity taken met = record { mailbox = mailbox capacity; taken = taken; met = met }

calls : (after_post c (poster 0 (a ∷ [])) ≡ poster 0 (a ∷ c ∷ []))
    × (after_take b (collector 2 (a ∷ []) both) ≡ collector 2 (a ∷ b ∷ []) both)
    × (after_meet (poster 1 (b ∷ [])) (collector 2 (a ∷ []) ((0, a ∷ c ∷ []) ∷ [])) ≡ collector 2 (a ∷ []) both)
calls = (refl, refl, refl)

-- ---- a new mailbox

is_opened : IsOpened 2 2 (collector 2 [] [])
is_opened = (refl, refl, refl, refl)

not_so_large : IsOpened 3 2 (collector 2 [] []) → ⊥
not_so_large is = let one = is.0 in omega (arith, one)

not_for_so_many : IsOpened 2 3 (collector 2 [] []) → ⊥
not_for_so_many is = let one = is.1 in omega (arith, one)

not_taken_of : IsOpened 2 2 (collector 2 (a ∷ []) []) → ⊥
not_taken_of is = omega (arith, ap length is.2)

not_met_of : IsOpened 2 2 (collector 2 [] ((0, []) ∷ [])) → ⊥
not_met_of is = omega (arith, ap length is.3)

pub is_that : (one other : PostEndState) → Some one ≡ Some other → other ≡ one
is_that one other is = cc

are_ends : AreEndsOf (mailbox 2) (poster 0 [] ∷ poster 1 [] ∷ [])
are_ends = record { count = refl; each = each }
  where
    each : (number : ℕ) (end : PostEndState) → slice_get (poster 0 [] ∷ poster 1 [] ∷ []) number ≡ Some end → end ≡ poster number []
    each zero end is = is_that (poster 0 []) end is
    each (suc zero) end is = is_that (poster 1 []) end is
    each (suc (suc number)) end is = absurd (none-some end is)

not_one_end : AreEndsOf (mailbox 2) (poster 0 [] ∷ []) → ⊥
not_one_end are = let count = are.count in omega (arith, count)

not_three_ends : AreEndsOf (mailbox 2) (poster 0 [] ∷ poster 1 [] ∷ poster 2 [] ∷ []) → ⊥
not_three_ends are = let count = are.count in omega (arith, count)

not_two_alike : AreEndsOf (mailbox 2) (poster 0 [] ∷ poster 0 [] ∷ []) → ⊥
not_two_alike are = let is = ap (λ (end : PostEndState). end.number) (are.each 1 (poster 0 []) refl) in omega (arith, is)

not_used : AreEndsOf (mailbox 2) (poster 0 [] ∷ poster 1 (b ∷ []) ∷ []) → ⊥
not_used are = let is = ap (λ (end : PostEndState). length end.posted) (are.each 1 (poster 1 (b ∷ [])) refl) in omega (arith, is)

not_first_used : AreEndsOf (mailbox 2) (poster 0 (a ∷ []) ∷ poster 1 [] ∷ []) → ⊥
not_first_used are = let is = ap (λ (end : PostEndState). length end.posted) (are.each 0 (poster 0 (a ∷ [])) refl) in omega (arith, is)

not_of_another : AreEndsOf (mailbox 3) (poster 0 [] ∷ poster 1 [] ∷ []) → ⊥
not_of_another are = let is = ap (λ (end : PostEndState). end.mailbox.capacity) (are.each 1 (poster 1 []) refl) in omega (arith, is)

-- ---- the ends that were met

all_met : AreAllMet (collector 2 [] both)
all_met zero below = among.0
all_met (suc zero) below = among.1
all_met (suc (suc number)) below = absurd (omega (arith, below))

not_all_met : AreAllMet (collector 2 [] ((0, []) ∷ [])) → ⊥
not_all_met all = by (all 1 (omega arith))
  where
    by : IsMet 1 ((0, []) ∷ []) → ⊥
    by (inl same) = omega (arith, same)
    by (inr none) = none

not_first_met : AreAllMet (collector 2 [] ((1, []) ∷ [])) → ⊥
not_first_met all = by (all 0 (omega arith))
  where
    by : IsMet 0 ((1, []) ∷ []) → ⊥
    by (inl same) = omega (arith, same)
    by (inr none) = none

are_fronts : ArePrefixesOfMet (collector 2 (a ∷ []) both)
are_fronts = ((b ∷ [], refl), ((c ∷ [], refl), tt))

not_fronts : ArePrefixesOfMet (collector 2 (b ∷ c ∷ []) both) → ⊥
not_fronts are = omega (arith, ap (λ (item : Item). item.stream) (the_first a c (c ∷ []) are.1.0.0 are.1.0.1))

-- Another item of the second end than it posted.
abbrev e : Item
e = record { sender = 1; stream = 3; what = End }

not_front_of_the_last : ArePrefixesOfMet (collector 2 (e ∷ []) both) → ⊥
not_front_of_the_last are = omega (arith, ap (λ (item : Item). item.stream) (the_first b e [] are.0.0 are.0.1))

are_whole : AreMetFullyTaken (collector 2 (a ∷ b ∷ c ∷ []) both)
are_whole = (refl, (refl, tt))

not_whole : AreMetFullyTaken (collector 2 (a ∷ b ∷ []) both) → ⊥
not_whole are = omega (arith, ap length are.1.0)

not_so_ordered : AreMetFullyTaken (collector 2 (b ∷ c ∷ a ∷ []) both) → ⊥
not_so_ordered are = omega (arith, ap (λ (item : Item). item.stream) (the_first a c (c ∷ []) (a ∷ []) are.1.0))

not_more : AreMetFullyTaken (collector 2 (a ∷ b ∷ c ∷ c ∷ []) both) → ⊥
not_more are = omega (arith, ap length are.1.0)

not_whole_of_the_last : AreMetFullyTaken (collector 2 (a ∷ c ∷ []) both) → ⊥
not_whole_of_the_last are = omega (arith, ap length are.0)

are_of_senders : AreFromSenders (collector 2 (a ∷ b ∷ []) [])
are_of_senders = (omega arith, (omega arith, tt))

not_of_senders : AreFromSenders (collector 2 (a ∷ record { sender = 2; stream = 0; what = End } ∷ []) []) → ⊥
not_of_senders are = let one = are.1.0 in omega (arith, one)

not_first_of_senders : AreFromSenders (collector 2 (record { sender = 2; stream = 0; what = End } ∷ a ∷ []) []) → ⊥
not_first_of_senders are = let one = are.0 in omega (arith, one)

leaves_room : MetEndsLeaveRoom (collector 2 (a ∷ b ∷ []) both) × MetEndsLeaveRoom (collector 4 [] both)
leaves_room = (omega arith, omega arith)

no_room : MetEndsLeaveRoom (collector 2 (a ∷ []) both) → ⊥
no_room room = omega (arith, room)

no_room_for_three : MetEndsLeaveRoom (collector 3 [] both) → ⊥
no_room_for_three room = omega (arith, room)

are_left : ArePending (b ∷ c ∷ []) (collector 2 (a ∷ []) both)
are_left = ((refl, (refl, tt)), (inl refl, (inr (inl refl), tt)))

not_left : ArePending (c ∷ []) (collector 2 (a ∷ []) both) → ⊥
not_left are = omega (arith, ap length are.0.0)

not_left_of_the_first : ArePending (b ∷ []) (collector 2 (a ∷ []) both) → ⊥
not_left_of_the_first are = omega (arith, ap length are.0.1.0)

not_so_many_left : ArePending (b ∷ c ∷ c ∷ []) (collector 2 (a ∷ []) both) → ⊥
not_so_many_left are = omega (arith, ap length are.0.1.0)

not_left_in_another_order : ArePending (c ∷ b ∷ a ∷ []) (collector 2 [] both) → ⊥
not_left_in_another_order are = omega (arith, ap (λ (item : Item). item.stream) (the_first a c (c ∷ []) (a ∷ []) are.0.1.0))

not_theirs : ArePending (b ∷ c ∷ []) (collector 2 (a ∷ []) ((0, a ∷ c ∷ []) ∷ [])) → ⊥
not_theirs are = by are.1.0
  where
    by : IsMet 1 ((0, a ∷ c ∷ []) ∷ []) → ⊥
    by (inl same) = omega (arith, same)
    by (inr none) = none

not_theirs_behind : ArePending (c ∷ b ∷ []) (collector 2 (a ∷ []) ((0, a ∷ c ∷ []) ∷ [])) → ⊥
not_theirs_behind are = by are.1.1.0
  where
    by : IsMet 1 ((0, a ∷ c ∷ []) ∷ []) → ⊥
    by (inl same) = omega (arith, same)
    by (inr none) = none

-- ---- the mailbox as a machine

has_schedule : HasSchedule (collector 1 (a ∷ b ∷ []) ((0, a ∷ []) ∷ (1, b ∷ []) ∷ []))
has_schedule = (two_met, reached, shows)

-- An item can't be taken twice.
not_twice : HasSchedule (collector 1 (a ∷ a ∷ []) ((0, a ∷ []) ∷ [])) → ⊥
not_twice has =
    let lawful = lawful_reached 1 2 has.0 has.1 in
    let is = ap length (has.2.2.0 ∙ lawful.all_of_each 0 ∙ items_of-append 0 has.0.taken has.0.queued) in
    let taken = ap (λ items. length (items_of 0 items)) has.2.0 in
    omega (arith, is, taken, length-append (items_of 0 has.0.taken) (items_of 0 has.0.queued))

-- An end that was met can't have more items left than fit.
has_two_left : HasSchedule (collector 2 [] ((0, a ∷ c ∷ []) ∷ []))
has_two_left = (two_left, reached_two_left, (refl, refl, (refl, tt)))

of_within : (sender : ℕ) (items : List Item) → length (items_of sender items) ≤ length items
of_within sender [] = omega arith
of_within sender (item ∷ items) = by (nat_eq item.sender sender) (of_within sender items)
  where
    by : (own : Bool) → length (items_of sender items) ≤ length items
        → length (if own then item ∷ items_of sender items else items_of sender items) ≤ length (item ∷ items)
    by true within = let more : suc (length (items_of sender items)) ≤ suc (length items) = omega (arith, within) in more
    by false within = let more : length (items_of sender items) ≤ suc (length items) = omega (arith, within) in more

no_two_left : HasSchedule (collector 1 [] ((0, a ∷ c ∷ []) ∷ [])) → ⊥
no_two_left has =
    let lawful = lawful_reached 1 2 has.0 has.1 in
    let is = ap length (has.2.2.0 ∙ lawful.all_of_each 0 ∙ items_of-append 0 has.0.taken has.0.queued) in
    let taken = ap (λ items. length (items_of 0 items)) has.2.0 in
    let fits = lawful.fits in
    omega (arith, is, taken, fits, length-append (items_of 0 has.0.taken) (items_of 0 has.0.queued), of_within 0 has.0.queued)

-- An end can't have been met twice.
abbrev IsEachOnce : List ℕ → Type 0
IsEachOnce [] = Unit {0}
IsEachOnce (number ∷ others) = AllByRecursion (λ (other : ℕ). other ≢ number) others × IsEachOnce others

once_after : (before after : State) → IsStep 1 2 before after → IsEachOnce before.met → IsEachOnce after.met
once_after before after (inl splits) once = subst IsEachOnce (sym splits.met) once
once_after before after (inr (inl posts)) once = subst IsEachOnce (sym posts.4.ends.1) once
once_after before after (inr (inr (inl takes))) once = subst IsEachOnce (sym takes.1.ends.1) once
once_after before after (inr (inr (inr (inl nothing)))) once = subst (λ (state : State). IsEachOnce state.met) (sym nothing.1) once
once_after before after (inr (inr (inr (inr meets)))) once = subst IsEachOnce (sym meets.1.met) (meets.1.there.1, once)

once_last : (first : State) (states : List State) → IsEachOnce first.met → IsSchedule 1 2 first states
    → IsEachOnce (last_of first states).met
once_last first [] once schedule = once
once_last first (after ∷ states) once schedule = once_last after states (once_after first after schedule.0 once) schedule.1

once_reached : (state : State) → IsReached 1 2 state → IsEachOnce state.met
once_reached state reached =
    subst (λ (state : State). IsEachOnce state.met) reached.last
    (once_last reached.first reached.states (subst IsEachOnce (sym reached.opens.4) tt) reached.schedule)

no_end_twice : HasSchedule (collector 1 [] ((0, []) ∷ (0, []) ∷ [])) → ⊥
no_end_twice has = let once = subst IsEachOnce (sym has.2.1) (once_reached has.0 has.1) in once.0.0 refl

-- An item of a sender that the mailbox doesn't have can't be taken.
not_of_a_stranger : HasSchedule (collector 1 (third ∷ []) []) → ⊥
not_of_a_stranger has =
    let lawful = lawful_reached 1 2 has.0 has.1 in
    let all = subst (λ taken. AllByRecursion (λ (item : Item). item.sender < 2) (taken ++ has.0.queued)) (sym has.2.0) lawful.of_senders in
    let one = all.0 in omega (arith, one)

finds_nothing : MakesStep FindsEmpty (collector 1 [] []) (collector 1 [] [])
finds_nothing = (opened, opened, reached_opened, (refl, refl, tt), (refl, refl), (refl, refl, tt))

not_kept : MakesStep (Takes b) (collector 1 [] []) (collector 1 [] []) → ⊥
not_kept step = let is = ap length (step.5.0 ∙ step.4.taken) in omega (arith, is, length-append step.0.taken (b ∷ []))

not_two_taken : MakesStep (Takes b) (collector 1 [] []) (collector 1 (a ∷ b ∷ []) []) → ⊥
not_two_taken step =
    let shown = step.3.0 in let is = ap length (step.5.0 ∙ step.4.taken) in
    omega (arith, is, ap length shown, length-append step.0.taken (b ∷ []))

not_from_nowhere : MakesStep FindsEmpty (collector 1 (a ∷ a ∷ []) ((0, a ∷ []) ∷ [])) (collector 1 (a ∷ a ∷ []) ((0, a ∷ []) ∷ [])) → ⊥
not_from_nowhere step = not_twice (step.0, step.2, step.3)

no_step_with_two_left : MakesStep (Takes a) (collector 1 [] ((0, a ∷ c ∷ []) ∷ [])) (collector 1 (a ∷ []) ((0, a ∷ c ∷ []) ∷ [])) → ⊥
no_step_with_two_left step = no_two_left (step.0, step.2, step.3)

no_step_with_an_end_twice : MakesStep FindsEmpty (collector 1 [] ((0, []) ∷ (0, []) ∷ [])) (collector 1 [] ((0, []) ∷ (0, []) ∷ [])) → ⊥
no_step_with_an_end_twice step = no_end_twice (step.0, step.2, step.3)

no_step_of_a_stranger : MakesStep (Takes third) (collector 1 [] []) (collector 1 (third ∷ []) []) → ⊥
no_step_of_a_stranger step =
    let lawful = lawful_takes 1 2 third step.0 step.1 step.4 (lawful_reached 1 2 step.0 step.2) in
    let all = subst (λ taken. AllByRecursion (λ (item : Item). item.sender < 2) (taken ++ step.1.queued))
    (sym step.5.0) lawful.of_senders in
    let one = all.0 in omega (arith, one)

-- The first post end of a mailbox for one item.
abbrev poster_of_one : List Item → PostEndState
poster_of_one posted = record { mailbox = mailbox 1; number = 0; posted = posted }

posts_one : PostsByStep a (poster_of_one []) (poster_of_one (a ∷ []))
posts_one = (
  two_ends,
  one_posted,
  reached_ends,
  (omega arith, tt),
  refl,
  record {
    own = refl;
    room = omega arith;
    taken = refl;
    queued = refl;
    posted = refl;
    others = none_else [] [] (a ∷ []);
    ends = (refl, refl);
  },
  refl,
)

not_two_at_once : PostsByStep a (poster_of_one []) (poster_of_one (a ∷ a ∷ [])) → ⊥
not_two_at_once post = let before = post.4 in let is = ap length (post.6 ∙ post.5.posted) in
    omega (arith, is, ap length before, length-append (post.0.posted 0) (a ∷ []))

not_by_a_stranger : (item : Item) → PostsByStep item (record { mailbox = mailbox 1; number = 2; posted = [] })
    (record { mailbox = mailbox 1; number = 2; posted = item ∷ [] }) → ⊥
not_by_a_stranger item post = let below = post.3.0 in omega (arith, below, made_reached 1 2 post.0 post.2)

not_after_another : PostsByStep a (poster_of_one []) (poster_of_one (c ∷ a ∷ [])) → ⊥
not_after_another post = let before = post.4 in let is = ap length (post.6 ∙ post.5.posted) in
    omega (arith, is, ap length before, length-append (post.0.posted 0) (a ∷ []))

-- An end can't have posted an item of the other end.
not_posted_before : PostsByStep a (poster_of_one (b ∷ [])) (poster_of_one (b ∷ a ∷ [])) → ⊥
not_posted_before post = none_of_first (post.0.taken ++ post.0.queued) (post.4 ∙ (lawful_reached 1 2 post.0 post.2).all_of_each 0)

-- Nothing is posted if there is no room for any item.
reached_without_room : IsReached 0 2 two_ends
reached_without_room = record {
  first = opened;
  states = record { taken = []; queued = []; posted = opened.posted; made = 1; met = [] } ∷ two_ends ∷ [];
  opens = opens;
  schedule = (
    inl (record { unmade = omega arith; none_posted = refl; made = refl; met = refl; items = (refl, refl, λ number. refl) }),
    (inl (record { unmade = omega arith; none_posted = refl; made = refl; met = refl; items = (refl, refl, λ number. refl) }), tt),
  );
  last = refl;
}

not_without_room : PostsByStep a (record { mailbox = mailbox 0; number = 0; posted = [] })
    (record { mailbox = mailbox 0; number = 0; posted = a ∷ [] }) → ⊥
not_without_room post = let room = post.5.room in omega (arith, room)
