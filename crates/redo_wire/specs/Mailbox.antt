-- The model of a mailbox and its ends.
use Rattle.std.specs.Prelude.{◌≡◌, ◌≢◌, ℕ, ◌+◌, ◌-◌, ◌<◌, List, [], ◌∷◌, ◌++◌, Some, ◌⊎◌, ⊤, length, map, slice_get}
use Rattle.std.specs.List.{AllByRecursion}
use Rattle.atomic_table.specs.Seated.{TableId}
use Rattle.atomic_table.specs.declared.badge.Badge.{Badge}
use Rattle.crossbeam_channel.specs.declared.flavors.array.Key.{Key}
use Rattle.redo_wire.specs.declared.item.Item.{Item}
use Rattle.redo_wire.specs.Machine.{IsPrefix, IsReached, IsLive, Posts, State, items_of}

-- A mailbox: which channel it is, how many items it holds at most, and how many post ends it has.
pub record Mailbox : Type 0 where
  pub table : TableId
  pub key : Badge (Key Item)
  pub capacity : ℕ
  pub senders : ℕ

-- A post end: its mailbox, its number, and the items that it posted, oldest first.
pub record PostEndState : Type 0 where
  pub mailbox : Mailbox
  pub number : ℕ
  pub posted : List Item

-- An end that was met: its number, and the items that it posted.
abbrev pub Met : Type 0
Met = ℕ × List Item

-- The take end: its mailbox, the items that it took, oldest first, and the ends that it met, the last one first.
pub record TakeEndState : Type 0 where
  pub mailbox : Mailbox
  pub taken : List Item
  pub met : List Met

-- ---- an end after a call

-- The post end after it posted `item`.
abbrev pub after_post : Item → PostEndState → PostEndState
after_post item end = record { mailbox = end.mailbox; number = end.number; posted = end.posted ++ item ∷ [] }

-- The take end after it took `item`.
abbrev pub after_take : Item → TakeEndState → TakeEndState
after_take item end = record { mailbox = end.mailbox; taken = end.taken ++ item ∷ []; met = end.met }

-- The take end after it met the post end `met`.
abbrev pub after_meet : PostEndState → TakeEndState → TakeEndState
after_meet met end = record { mailbox = end.mailbox; taken = end.taken; met = (met.number, met.posted) ∷ end.met }

-- ---- a new mailbox

abbrev pub IsOpened : ℕ → ℕ → TakeEndState → Type 0
IsOpened capacity senders end =
    (end.mailbox.capacity ≡ capacity) × (end.mailbox.senders ≡ senders) × (end.taken ≡ []) × (end.met ≡ [])

-- One post end for each number, at the index of that number. None of them posted anything yet.
pub record AreEndsOf (mailbox : Mailbox) (ends : List PostEndState) : Type 0 where
  pub count : length ends ≡ mailbox.senders
  pub each : (number : ℕ) (end : PostEndState) → slice_get ends number ≡ Some end → end ≡ record { mailbox = mailbox; number = number; posted = [] }

-- ---- the ends that were met

-- An end of this number was met.
abbrev pub IsMet : ℕ → List Met → Type 0
IsMet number [] = ⊥
IsMet number (met ∷ others) = (met.0 ≡ number) ⊎ IsMet number others

-- No end was met twice.
abbrev pub AreDistinct : List Met → Type 0
AreDistinct [] = ⊤
AreDistinct (met ∷ others) = AllByRecursion (λ (other : Met). other.0 ≢ met.0) others × AreDistinct others

abbrev pub AreAllMet : TakeEndState → Type 0
AreAllMet end = (number : ℕ) → number < end.mailbox.senders → IsMet number end.met

-- For each met end, the items taken from it are a prefix of the items that it posted.
abbrev pub ArePrefixesOfMet : TakeEndState → Type 0
ArePrefixesOfMet end = AllByRecursion (λ (met : Met). IsPrefix (items_of met.0 end.taken) met.1) end.met

-- For each met end, the items taken from it are all that it posted, and no more.
abbrev pub AreMetFullyTaken : TakeEndState → Type 0
AreMetFullyTaken end = AllByRecursion (λ (met : Met). met.1 ≡ items_of met.0 end.taken) end.met

-- Each item that was taken has the number of a sender of this mailbox.
abbrev pub AreFromSenders : TakeEndState → Type 0
AreFromSenders end = AllByRecursion (λ (item : Item). item.sender < end.mailbox.senders) end.taken

-- How many items these ends posted that were not taken.
abbrev pub pending_count : List Item → List Met → ℕ
pending_count taken [] = 0
pending_count taken (met ∷ others) = (length met.1 - length (items_of met.0 taken)) + pending_count taken others

-- The items that the met ends posted and that are still to be taken are fewer than the capacity.
abbrev pub MetEndsLeaveRoom : TakeEndState → Type 0
MetEndsLeaveRoom end = pending_count end.taken end.met < end.mailbox.capacity

-- Exactly these items are left of the met ends: with them, all that these ends posted was taken, and each is of a met end.
abbrev pub ArePending : List Item → TakeEndState → Type 0
ArePending items end =
    AllByRecursion (λ (met : Met). met.1 ≡ items_of met.0 (end.taken ++ items)) end.met × AllByRecursion (λ (item : Item). IsMet item.sender end.met) items

-- ---- the mailbox as a machine

-- The part of a state that the take end shows: the items taken, and the met ends with the items that they posted.
abbrev pub Observes : List Item → List Met → State → Type 0
Observes taken met state = (taken ≡ state.taken) × (map (λ (m : Met). m.0) met ≡ state.met) × AllByRecursion (λ (m : Met). m.1 ≡ state.posted m.0) met

-- A schedule leads to a state that this end shows.
abbrev pub HasSchedule : TakeEndState → Type 0
HasSchedule end = (state : State) × IsReached end.mailbox.capacity end.mailbox.senders state × Observes end.taken end.met state

-- The machine takes such a step from a state that a schedule leads to. `old` shows the state before it, `new` the state after it.
abbrev pub MakesStep : (State → State → Type 0) → TakeEndState → TakeEndState → Type 0
MakesStep Step old new =
    (before after : State) × IsReached old.mailbox.capacity old.mailbox.senders before × Observes old.taken old.met before × Step before after × Observes new.taken new.met after

-- The machine takes a step in which a post end posts. The end shows the items that it posted.
abbrev pub PostsByStep : Item → PostEndState → PostEndState → Type 0
PostsByStep item old new =
    (before after : State) × IsReached old.mailbox.capacity old.mailbox.senders before × IsLive old.number before × (old.posted ≡ before.posted old.number)
    × Posts old.mailbox.capacity old.number item before after × (new.posted ≡ after.posted old.number)
