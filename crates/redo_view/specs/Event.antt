-- Events: the things that are shown, in order. How they look is no part of them.
use Rattle.std.specs.Prelude.{ℕ, Bool, true, false, List, Option, None, Some, if◌then◌else◌}
use Rattle.redo_line.specs.declared.entry.Entry.{Entry}
use Rattle.redo_line.specs.declared.entry.How.{How}
use Rattle.redo_view.specs.declared.event.Opening.{Opening}
use Rattle.redo_view.specs.declared.event.Opening.TheVariants.{NotOpened, OpenedBefore, OpensHere}

-- One event. The depth of an event is the number of open logs.
pub data Event : Type 0 where
  -- A requested target, and the opening of its log.
  Requested : List ℕ → Opening → Event
  -- A mention: its depth, its pid, its kind, the mentioned target, and the opening of this target's log.
  Mentioned : ℕ → ℕ → How → List ℕ → Opening → Event
  -- Any other entry, with its depth.
  EntryShown : ℕ → Entry → Event
  -- The end of the log that was opened last, with the depth of its entries.
  LogEnds : ℕ → Event

-- Whether the log is opened by this event. Then everything up to its `LogEnds` is in it.
abbrev pub opens_here : Opening → Bool
opens_here (OpensHere number) = true
opens_here opening = false

-- The opening of a target's log, from its number, if there is one. A log is opened unless it was opened before, if it may be.
abbrev pub opening_of : Bool → Bool → Option ℕ → Opening
opening_of may_open was_opened None = NotOpened
opening_of may_open was_opened (Some number) = if was_opened then OpenedBefore number else if may_open then OpensHere number else NotOpened
