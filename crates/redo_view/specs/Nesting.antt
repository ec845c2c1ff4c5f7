-- How logs are nested.
use Rattle.std.specs.Prelude.{◌≡◌, ℕ, zero, suc, nat_eq, List, [], ◌∷◌, Option, None, Some, option_and_then, if◌then◌else◌}
use Rattle.redo_logs.specs.Logs.{Log}
use Rattle.redo_options.specs.declared.options.Options.{Options}
use Rattle.redo_view.specs.declared.event.Opening.{Opening}
use Rattle.redo_view.specs.Event.{Event, opens_here}
use Rattle.redo_view.specs.Event.Event.{Requested, Mentioned, EntryShown, LogEnds}
use Rattle.redo_view.specs.Expansion.{shown_events}
use Rattle.redo_view.specs.View.{find_unknown}

-- The number of open logs after a line, if `count` logs were open before it.
abbrev pub with_opening : Opening → ℕ → ℕ
with_opening opening count = if opens_here opening then suc count else count

-- The number of open logs after an event, if `count` logs were open before it. `None` if the event's depth is another, or if no
-- log is open that could end.
abbrev pub open_after : ℕ → Event → Option ℕ
open_after count (Requested name opening) = if nat_eq count 0 then Some (with_opening opening count) else None
open_after count (Mentioned depth pid how name opening) = if nat_eq count depth then Some (with_opening opening count) else None
open_after count (EntryShown depth entry) = if nat_eq count depth then Some count else None
open_after zero (LogEnds depth) = None
open_after (suc outer) (LogEnds depth) = if nat_eq (suc outer) depth then Some outer else None

-- The number of open logs after events.
abbrev pub open_after_all : ℕ → List Event → Option ℕ
open_after_all count [] = Some count
open_after_all count (event ∷ events) = option_and_then (λ (next : ℕ). open_after_all next events) (open_after count event)

-- Whether the depth of each event is the number of open logs, each log that is opened ends, and no other log ends. Each requested
-- target must have a log.
abbrev pub AreNested : List Log → Options → List (List ℕ) → Type 0
AreNested logs options requested = find_unknown logs requested ≡ None → open_after_all 0 (shown_events logs options requested) ≡ Some 0
