-- The rule of the mailbox: the contents of the channel, and the knowledge of every pass.
--
-- A schedule of the machine leads to a state whose queue is the contents of the channel. Every pass knows its part of this state.
use Rattle.std.specs.Prelude.{◌≡◌, ℕ, ◌+◌, ◌<◌, ◌≤◌, List, [], ◌∷◌, ◌++◌, Option, None, Some, map}
use Rattle.std.specs.List.{AllByRecursion}
use mathlib.Core.Option.{some}
use lib.ListN.{get_elem?}
use Rattle.redo_wire.specs.declared.item.Item.{Item}
use Rattle.redo_wire.specs.declared.rule.View.{View}
use Rattle.redo_wire.specs.declared.rule.View.TheVariants.{Idle, Starting, Posting, Taking}
use Rattle.redo_wire.specs.Machine.{IsPrefix, IsReached, IsLive, Posts, State, Takes, items_of}
use Rattle.redo_wire.specs.Mailbox.{AreDistinct, Met, Observes, pending_count}
use Rattle.redo_wire.specs.Private.Ends.{capacity_in, items_in, met_in, number_in, senders_in}

-- ---- a view after a step

abbrev pub with_one_made : View → View
with_one_made Idle = Idle
with_one_made Starting = Starting
with_one_made (Posting capacity senders number put) = Posting capacity senders number put
with_one_made (Taking capacity senders made got met) = Taking capacity senders (made + 1) got met

abbrev pub next_end : View → View
next_end Idle = Idle
next_end Starting = Idle
next_end (Posting capacity senders number put) = Idle
next_end (Taking capacity senders made got met) = Posting capacity senders made []

abbrev pub with_met_end : ℕ → ℕ → ℕ → List Item → List Met → View → View
with_met_end capacity senders made got met Idle = Taking capacity senders made got met
with_met_end capacity senders made got met Starting = Taking capacity senders made got met
with_met_end capacity senders made got met (Posting limit ends number put) = Taking capacity senders made got ((number, put) ∷ met)
with_met_end capacity senders made got met (Taking limit ends others got' met') = Taking capacity senders made got met

abbrev pub with_met : View → View → View
with_met Idle end = Idle
with_met Starting end = Starting
with_met (Posting capacity senders number put) end = Posting capacity senders number put
with_met (Taking capacity senders made got met) end = with_met_end capacity senders made got met end

abbrev pub with_put : Item → View → View
with_put item Idle = Idle
with_put item Starting = Starting
with_put item (Posting capacity senders number put) = Posting capacity senders number (put ++ item ∷ [])
with_put item (Taking capacity senders made got met) = Taking capacity senders made got met

abbrev pub with_got : Item → View → View
with_got item Idle = Idle
with_got item Starting = Starting
with_got item (Posting capacity senders number put) = Posting capacity senders number put
with_got item (Taking capacity senders made got met) = Taking capacity senders made (got ++ item ∷ []) met

-- ---- the knowledge of a pass about a state: `reader` is the pass that takes, and `seat` gives the pass that posts with a number

module _ (capacity senders reader : ℕ) (seat : ℕ → Option ℕ) (state : State) where
  -- A met end: it was made, no pass posts with its number any more, and it posted these items.
  abbrev pub IsMetEnd : ℕ → Met → Type 0
  IsMetEnd made met = (met.0 < made) × (seat met.0 ≡ None) × (met.1 ≡ state.posted met.0)

  pub record FitsPosting (pass limit ends number : ℕ) (put : List Item) : Type 0 where
    pub limit_is : limit ≡ capacity
    pub ends_are : ends ≡ senders
    pub below : number < senders
    pub seated : seat number ≡ Some pass
    pub there : IsLive number state
    pub put_is : put ≡ state.posted number

  pub record FitsTaking (pass limit ends made : ℕ) (got : List Item) (met : List Met) : Type 0 where
    pub limit_is : limit ≡ capacity
    pub ends_are : ends ≡ senders
    pub reads : pass ≡ reader
    pub made_fit : made ≤ senders
    pub made_is : made ≡ state.made
    pub numbers_are : map (λ (m : Met). m.0) met ≡ state.met
    pub got_is : got ≡ state.taken
    pub unmade : (number : ℕ) → made ≤ number → (seat number ≡ None) × (state.posted number ≡ [])
    pub met_are : AllByRecursion (IsMetEnd made) met
    pub apart : AreDistinct met

  pub record FitsStarting (pass : ℕ) : Type 0 where
    pub reads : pass ≡ reader
    pub nobody : (number : ℕ) → seat number ≡ None
    pub none_queued : state.queued ≡ []

  abbrev pub Fits : ℕ → View → Type 0
  Fits pass Idle = Unit {0}
  Fits pass Starting = FitsStarting pass
  Fits pass (Posting limit ends number put) = FitsPosting pass limit ends number put
  Fits pass (Taking limit ends made got met) = FitsTaking pass limit ends made got met

pub record Invariant (items : List Item) (views : List View) : Type 0 where
  pub capacity : ℕ
  pub senders : ℕ
  pub reader : ℕ
  pub seat : ℕ → Option ℕ
  pub state : State
  pub queued_is : state.queued ≡ items
  pub reached : IsReached capacity senders state
  pub fit : (pass : ℕ) (view : View) → get_elem? views pass ≡ some view → Fits capacity senders reader seat state pass view

-- ---- the lessons of a pass

-- For each met end, the items taken from it are a prefix of the items that it posted. The items that the met ends posted and
-- that are still to be taken are fewer than the capacity.
abbrev pub KnowsMet : View → Type 0
KnowsMet Idle = Unit {0}
KnowsMet Starting = Unit {0}
KnowsMet (Posting capacity senders number put) = Unit {0}
KnowsMet (Taking capacity senders made got met) =
    AllByRecursion (λ (m : Met). IsPrefix (items_of m.0 got) m.1) met × (pending_count got met < capacity)

-- An item was put by a step of the machine, from a state that a schedule leads to.
abbrev pub KnowsPost : View → Item → View → Type 0
KnowsPost view item now =
    (before after : State) × IsReached (capacity_in view) (senders_in view) before × IsLive (number_in view) before × (items_in view ≡ before.posted (number_in view))
    × Posts (capacity_in view) (number_in view) item before after × (items_in now ≡ after.posted (number_in view))

-- The front was taken by a step of the machine, from a state that a schedule leads to.
abbrev pub KnowsStep : View → Item → View → Type 0
KnowsStep view item now =
    (before after : State) × IsReached (capacity_in view) (senders_in view) before × Observes (items_in view) (met_in view) before × Takes item before after
    × Observes (items_in now) (met_in now) after

-- A schedule leads to a state that the view shows and whose queue is `items`.
abbrev pub KnowsState : View → List Item → Type 0
KnowsState view items = (state : State) × IsReached (capacity_in view) (senders_in view) state × Observes (items_in view) (met_in view) state × (state.queued ≡ items)

-- The knowledge of the take end, if the mailbox holds `items`: with them, all that the met ends posted was taken, each item is a
-- sender's, no end was met twice, and a schedule leads to this state.
abbrev pub KnowsOf : View → List Item → Type 0
KnowsOf Idle items = ⊥
KnowsOf Starting items = ⊥
KnowsOf (Posting capacity senders number put) items = ⊥
KnowsOf (Taking capacity senders made got met) items =
    AllByRecursion (λ (m : Met). m.1 ≡ items_of m.0 (got ++ items)) met × AllByRecursion (λ (item : Item). item.sender < senders) (got ++ items) × AreDistinct met
    × KnowsState (Taking capacity senders made got met) items
