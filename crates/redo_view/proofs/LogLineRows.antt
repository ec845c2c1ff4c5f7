-- Rows of the definitions on the text lines of open logs.
use Rattle.std.proofs.Common.{◌≡◌, ℕ, List, [], ◌∷◌, None, Some, pos, refl}
use Rattle.std.specs.Prelude.{codes}
use Rattle.redo_line.specs.declared.entry.Entry.{Entry}
use Rattle.redo_line.specs.declared.entry.Entry.TheVariants.{Text, Mention, Closing}
use Rattle.redo_line.specs.declared.entry.How.TheVariants.{Made}
use Rattle.redo_logs.specs.declared.log_state.LogState.TheVariants.{Ended}
use Rattle.redo_logs.specs.Logs.{Log}
use Rattle.redo_view.specs.declared.event.Opening.TheVariants.{NotOpened, OpenedBefore, OpensHere}
use Rattle.redo_view.specs.Event.{Event}
use Rattle.redo_view.specs.Event.Event.{Requested, Mentioned, EntryShown, LogEnds}
use Rattle.redo_view.specs.LogLines.{after_end, after_line, after_opening, lines_left_after, lines_of_log, text_lines}

abbrev log : List ℕ → List Entry → Log
log target entries = record { target = target; entries = entries; state = Ended }

abbrev logs : List Log
logs = log (codes "all") (Text (codes "a") ∷ Mention 9 Made (codes "x") ∷ Text (codes "b") ∷ [])
    ∷ log (codes "x") (Text (codes "c") ∷ Closing 9 (pos 0) ∷ []) ∷ []

text_lines_are : text_lines (Text (codes "a") ∷ Mention 9 Made (codes "x") ∷ Text (codes "b") ∷ []) ≡ codes "a" ∷ codes "b" ∷ []
text_lines_are = refl

lines_of_logs_are : lines_of_log 0 logs ∷ lines_of_log 1 logs ∷ lines_of_log 2 logs ∷ []
    ≡ (codes "a" ∷ codes "b" ∷ []) ∷ (codes "c" ∷ []) ∷ [] ∷ []
lines_of_logs_are = refl

after_lines_are : after_line (codes "a") ((codes "a" ∷ codes "b" ∷ []) ∷ []) ∷ after_line (codes "b") ((codes "a" ∷ codes "b" ∷ []) ∷ [])
    ∷ after_line (codes "a") ([] ∷ []) ∷ after_line (codes "a") [] ∷ []
    ≡ Some ((codes "b" ∷ []) ∷ []) ∷ None ∷ None ∷ None ∷ []
after_lines_are = refl

after_ends_are : after_end [] ∷ after_end ([] ∷ (codes "a" ∷ []) ∷ []) ∷ after_end ((codes "a" ∷ []) ∷ []) ∷ []
    ≡ None ∷ Some ((codes "a" ∷ []) ∷ []) ∷ None ∷ []
after_ends_are = refl

after_openings_are : after_opening logs NotOpened [] ∷ after_opening logs (OpenedBefore 1) [] ∷ after_opening logs (OpensHere 1) [] ∷ []
    ≡ [] ∷ [] ∷ ((codes "c" ∷ []) ∷ []) ∷ []
after_openings_are = refl

-- A line of another log in between would be refused.
abbrev events : List ℕ → List Event
events line =
    Requested (codes "all") (OpensHere 0) ∷ EntryShown 1 (Text (codes "a")) ∷ Mentioned 1 9 Made (codes "x") (OpensHere 1)
    ∷ EntryShown 2 (Text line) ∷ EntryShown 2 (Closing 9 (pos 0)) ∷ LogEnds 2
    ∷ EntryShown 1 (Text (codes "b")) ∷ LogEnds 1 ∷ []

events_are : lines_left_after logs [] (events (codes "c")) ∷ lines_left_after logs [] (events (codes "b")) ∷ [] ≡ Some [] ∷ None ∷ []
events_are = refl
