-- Which text lines are shown in which log.
use Rattle.std.specs.Prelude.{◌≡◌, ℕ, zero, suc, nat_eq, List, [], ◌∷◌, Option, None, Some, option_and_then, if◌then◌else◌}
use Rattle.std.specs.Cmp.Lexicographic.{pointwise}
use Rattle.redo_line.specs.declared.entry.Entry.{Entry}
use Rattle.redo_line.specs.declared.entry.Entry.TheVariants.{Text}
use Rattle.redo_logs.specs.Logs.{Log}
use Rattle.redo_options.specs.declared.options.Options.{Options}
use Rattle.redo_view.specs.declared.event.Opening.{Opening}
use Rattle.redo_view.specs.declared.event.Opening.TheVariants.{NotOpened, OpenedBefore, OpensHere}
use Rattle.redo_view.specs.Event.{Event}
use Rattle.redo_view.specs.Event.Event.{Requested, Mentioned, EntryShown, LogEnds}
use Rattle.redo_view.specs.Expansion.{shown_events}
use Rattle.redo_view.specs.View.{find_unknown}

-- The text lines of some entries.
abbrev pub text_lines : List Entry → List (List ℕ)
text_lines [] = []
text_lines (Text line ∷ entries) = line ∷ text_lines entries
text_lines (entry ∷ entries) = text_lines entries

-- The text lines of the log with this number; none if there is no such log.
abbrev pub lines_of_log : ℕ → List Log → List (List ℕ)
lines_of_log number [] = []
lines_of_log zero (log ∷ logs) = text_lines log.entries
lines_of_log (suc number) (log ∷ logs) = lines_of_log number logs

-- The text lines that each open log has still to show, the innermost log first.
abbrev pub LinesLeft : Type 0
LinesLeft = List (List (List ℕ))

-- After a line is shown in the innermost log; `None` if it isn't the next line of this log.
abbrev pub after_line : List ℕ → LinesLeft → Option LinesLeft
after_line line [] = None
after_line line ([] ∷ outer) = None
after_line line ((next ∷ lines) ∷ outer) = if pointwise nat_eq line next then Some (lines ∷ outer) else None

-- After the end of the innermost log; `None` if it has still lines to show.
abbrev pub after_end : LinesLeft → Option LinesLeft
after_end [] = None
after_end ([] ∷ outer) = Some outer
after_end ((next ∷ lines) ∷ outer) = None

module _ (logs : List Log) where
  abbrev pub after_opening : Opening → LinesLeft → LinesLeft
  after_opening NotOpened left = left
  after_opening (OpenedBefore number) left = left
  after_opening (OpensHere number) left = lines_of_log number logs ∷ left

  abbrev pub lines_left : LinesLeft → Event → Option LinesLeft
  lines_left left (Requested name opening) = Some (after_opening opening left)
  lines_left left (Mentioned depth pid how name opening) = Some (after_opening opening left)
  lines_left left (EntryShown depth (Text line)) = after_line line left
  lines_left left (EntryShown depth entry) = Some left
  lines_left left (LogEnds depth) = after_end left

  -- The lines that are left after events.
  abbrev pub lines_left_after : LinesLeft → List Event → Option LinesLeft
  lines_left_after left [] = Some left
  lines_left_after left (event ∷ events) = option_and_then (λ (next : LinesLeft). lines_left_after next events) (lines_left left event)

-- Whether each log that is opened shows its text lines, in order, before it ends, and no others. Each requested target must have a log.
abbrev pub LogsShowTheirLines : List Log → Options → List (List ℕ) → Type 0
LogsShowTheirLines logs options requested = find_unknown logs requested ≡ None → lines_left_after logs [] (shown_events logs options requested) ≡ Some []
