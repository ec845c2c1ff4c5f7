-- The mailbox as a machine: its states and its five kinds of step.
use Rattle.std.specs.Prelude.{◌≡◌, ◌≢◌, ◌⊎◌, ⊤, ℕ, ◌+◌, ◌<◌, ◌≤◌, nat_eq, List, [], ◌∷◌, ◌++◌, length, filter}
use Rattle.std.specs.List.{AllByRecursion}
use Rattle.redo_wire.specs.declared.item.Item.{Item}

-- The items of one sender, in order.
abbrev pub items_of : ℕ → List Item → List Item
items_of sender items = filter (λ item. nat_eq item.sender sender) items

-- `front` is a prefix of `items`.
abbrev pub IsPrefix : List Item → List Item → Type 0
IsPrefix front items = (behind : List Item) × (items ≡ front ++ behind)

-- A state: the items taken and the items queued, oldest first; the items that each sender posted; how many post ends were made,
-- numbered from 0; and the numbers of the ends that were met, the last one first.
pub record State : Type 0 where
  pub taken : List Item
  pub queued : List Item
  pub posted : ℕ → List Item
  pub made : ℕ
  pub met : List ℕ

-- A valid state: for each sender, its taken and queued items are exactly the items that it posted, in order; there is no item
-- of any other sender; and no more is queued than fits.
pub record IsValid (capacity senders : ℕ) (state : State) : Type 0 where
  pub all_of_each : (sender : ℕ) → state.posted sender ≡ items_of sender (state.taken ++ state.queued)
  pub of_senders : AllByRecursion (λ (item : Item). item.sender < senders) (state.taken ++ state.queued)
  pub fits : length state.queued ≤ capacity

-- ---- the steps

-- A new mailbox.
abbrev pub Opens : State → Type 0
Opens after = (after.taken ≡ []) × (after.queued ≡ []) × ((sender : ℕ) → after.posted sender ≡ []) × (after.made ≡ 0) × (after.met ≡ [])

-- The end of this number may post: it was made and wasn't met.
abbrev pub IsLive : ℕ → State → Type 0
IsLive sender state = (sender < state.made) × AllByRecursion (λ (other : ℕ). other ≢ sender) state.met

-- No end is made or met.
abbrev pub EndsUnchanged : State → State → Type 0
EndsUnchanged before after = (after.made ≡ before.made) × (after.met ≡ before.met)

-- No item is put or taken.
abbrev pub ItemsUnchanged : State → State → Type 0
ItemsUnchanged before after = (after.taken ≡ before.taken) × (after.queued ≡ before.queued) × ((sender : ℕ) → after.posted sender ≡ before.posted sender)

-- An end with the next number is split off. It posted nothing.
pub record AddsEnd (senders : ℕ) (before after : State) : Type 0 where
  pub unmade : before.made < senders
  pub none_posted : before.posted before.made ≡ []
  pub made : after.made ≡ before.made + 1
  pub met : after.met ≡ before.met
  pub items : ItemsUnchanged before after

-- A sender's item is put at the back. There is room for it.
pub record Posts (capacity sender : ℕ) (item : Item) (before after : State) : Type 0 where
  pub own : item.sender ≡ sender
  pub room : length before.queued < capacity
  pub taken : after.taken ≡ before.taken
  pub queued : after.queued ≡ before.queued ++ item ∷ []
  pub posted : after.posted sender ≡ before.posted sender ++ item ∷ []
  pub others : (other : ℕ) → (other ≡ sender → ⊥) → after.posted other ≡ before.posted other
  pub ends : EndsUnchanged before after

-- The front is taken.
pub record Takes (item : Item) (before after : State) : Type 0 where
  pub queued : before.queued ≡ item ∷ after.queued
  pub taken : after.taken ≡ before.taken ++ item ∷ []
  pub posted : (sender : ℕ) → after.posted sender ≡ before.posted sender
  pub ends : EndsUnchanged before after

-- Nothing is found: nothing is queued, and nothing changes.
abbrev pub FindsEmpty : State → State → Type 0
FindsEmpty before after = (before.queued ≡ []) × (after ≡ before)

-- An end is met. The items that it posted stay.
pub record Meets (sender : ℕ) (before after : State) : Type 0 where
  pub there : IsLive sender before
  pub made : after.made ≡ before.made
  pub met : after.met ≡ sender ∷ before.met
  pub items : ItemsUnchanged before after

-- One step of a mailbox with this capacity and this number of senders. An end posts only if it was made and wasn't met.
abbrev pub IsStep : ℕ → ℕ → State → State → Type 0
IsStep capacity senders before after =
    AddsEnd senders before after
    ⊎ ((sender : ℕ) × (item : Item) × (sender < senders) × IsLive sender before × Posts capacity sender item before after)
    ⊎ ((item : Item) × Takes item before after)
    ⊎ FindsEmpty before after
    ⊎ ((sender : ℕ) × Meets sender before after)

-- `states` are the states after each step of a schedule that begins at `before`.
abbrev pub IsSchedule : ℕ → ℕ → State → List State → Type 0
IsSchedule capacity senders before [] = ⊤
IsSchedule capacity senders before (after ∷ states) = IsStep capacity senders before after × IsSchedule capacity senders after states

-- The last state of a schedule.
abbrev pub last_of : State → List State → State
last_of first [] = first
last_of first (after ∷ states) = last_of after states

-- A schedule leads from a new mailbox to this state.
pub record IsReached (capacity senders : ℕ) (state : State) : Type 0 where
  pub first : State
  pub states : List State
  pub opens : Opens first
  pub schedule : IsSchedule capacity senders first states
  pub last : last_of first states ≡ state
