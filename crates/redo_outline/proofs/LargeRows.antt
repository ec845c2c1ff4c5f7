-- Rows of many logs and lines, and properties of any number of them.
use Rattle.std.proofs.Common.{◌≡◌, ℕ, zero, suc, true, false, List, [], ◌∷◌, ◌++◌, Option, None, Some, ℤ, pos, negsuc, map, replicate, refl}
use Rattle.std.specs.Prelude.{◌==◌, codes, option_map, slice_get, if◌then◌else◌}
use Rattle.redo_line.specs.declared.entry.Entry.{Entry}
use Rattle.redo_line.specs.declared.entry.Entry.TheVariants.{Text, Done, Closing, Note}
use Rattle.redo_line.specs.declared.entry.How.TheVariants.{Made}
use Rattle.redo_logs.specs.declared.log_state.LogState.TheVariants.{Ended}
use Rattle.redo_logs.specs.Logs.{Log}
use Rattle.redo_view.specs.declared.event.Opening.TheVariants.{NotOpened}
use Rattle.redo_view.specs.Event.{Event}
use Rattle.redo_view.specs.Event.Event.{Requested, Mentioned, EntryShown}
use Rattle.redo_outline.specs.Contents.{Contents}
use Rattle.redo_outline.specs.declared.node.Node.{Node}
use Rattle.redo_outline.specs.declared.node.RunTimes.{RunTimes}
use Rattle.redo_outline.specs.Contents.Contents.{Nothing, Shown, Opened}
use Rattle.redo_outline.specs.Facts.{entries_at, is_failure, is_warning, saturated, target_at, target_status, text_size}
use Rattle.redo_outline.specs.Outline.{has_others, is_visible, node_of, nodes_of, times_at}

-- ---- statuses

-- Each status other than 0 is a failure.
each_exit : (status : ℕ) → is_failure (Some (pos (suc status))) ≡ true
each_exit status = refl

each_signal : (status : ℕ) → is_failure (Some (negsuc status)) ≡ true
each_signal status = refl

some_statuses : map (λ status. is_failure (Some status)) (pos 2 ∷ pos 6 ∷ pos 77 ∷ pos 126 ∷ pos 127 ∷ pos 130 ∷ pos 137 ∷ pos 255 ∷ pos 256
    ∷ pos 65536 ∷ negsuc 0 ∷ negsuc 4 ∷ negsuc 8 ∷ negsuc 254 ∷ []) ≡ replicate 14 true
some_statuses = refl

-- ---- logs

-- A thousand logs in a row, and a thousand logs that are each in the one before. The numbers are from 999 to 0.
abbrev in_a_row : ℕ → Contents
in_a_row zero = Nothing
in_a_row (suc number) = Opened (Requested [] NotOpened) number Nothing (in_a_row number)

abbrev nested : ℕ → Contents
nested zero = Nothing
nested (suc number) = Opened (Requested [] NotOpened) number (nested number) Nothing

-- The last one failed; none failed.
abbrev last_failed : ℕ → Option ℤ
last_failed number = if number == 0 then Some (pos 1) else Some (pos 0)

abbrev none_failed : ℕ → Option ℤ
none_failed number = Some (pos 0)

many_logs :
    ((node_of [] last_failed None 1000 (in_a_row 1000) Nothing).below ≡ 1000)
    × ((node_of [] last_failed None 1000 (in_a_row 1000) Nothing).children ≡ 1000)
    × ((node_of [] last_failed None 1000 (in_a_row 1000) Nothing).fails_below ≡ true)
    × ((node_of [] none_failed None 1000 (in_a_row 1000) Nothing).fails_below ≡ false)
many_logs = (refl, refl, refl, refl)

deep_logs :
    ((node_of [] last_failed None 1000 (nested 1000) Nothing).below ≡ 1000)
    × ((node_of [] last_failed None 1000 (nested 1000) Nothing).children ≡ 1)
    × ((node_of [] last_failed None 1000 (nested 1000) Nothing).fails_below ≡ true)
    × ((node_of [] none_failed None 1000 (nested 1000) Nothing).fails_below ≡ false)
deep_logs = (refl, refl, refl, refl)

silent_logs :
    ((node_of [] none_failed None 1000 Nothing (in_a_row 1000)).silent ≡ 1001)
    × ((node_of [] last_failed None 1000 Nothing (in_a_row 1000)).silent ≡ 1000)
silent_logs = (refl, refl)

-- ---- lines

abbrev log : List Entry → Log
log entries = record { target = codes "a"; entries = entries; state = Ended }

-- A log with 12,345 lines that have nothing, and one with 1,000 warnings of 9 bytes.
abbrev empty_lines : List Log
empty_lines = log (replicate 12345 (Text [])) ∷ []

abbrev warnings : List Log
warnings = log (replicate 1000 (Text (codes "warning:"))) ∷ []

many_lines :
    ((node_of empty_lines none_failed None 0 Nothing Nothing).lines ≡ 12345)
    × ((node_of empty_lines none_failed None 0 Nothing Nothing).bytes ≡ 12345)
    × ((node_of empty_lines none_failed None 0 Nothing Nothing).warnings ≡ 0)
    × ((node_of warnings none_failed None 0 Nothing Nothing).warnings ≡ 1000)
    × ((node_of warnings none_failed None 0 Nothing Nothing).bytes ≡ 9000)
many_lines = (refl, refl, refl, refl, refl)

-- A line of 70,000 bytes, and its line feed.
long_line : text_size (replicate 70000 120 ∷ []) ≡ 70001
long_line = refl

-- Numbers up to 2^64 - 1 are themselves.
large_numbers : map saturated (1000000001 ∷ 0x7FFFFFFFFFFFFFFF ∷ 0x8000000000000000 ∷ 0xFFFFFFFFFFFFFFFE ∷ 0x10000000000000001 ∷ [])
    ≡ 1000000001 ∷ 0x7FFFFFFFFFFFFFFF ∷ 0x8000000000000000 ∷ 0xFFFFFFFFFFFFFFFE ∷ 0xFFFFFFFFFFFFFFFF ∷ []
large_numbers = refl

-- ---- warnings

-- Only lower case counts, at the end of a long line too, and in a line with an error.
warning_lines :
    (is_warning (codes "a.c:1: WARNING: x") ≡ false) × (is_warning (codes "a.c:1: Warning: x") ≡ false)
    × (is_warning (codes "warnings: 3") ≡ false) × (is_warning (replicate 5000 120 ++ codes "warning:") ≡ true)
    × (is_warning (codes "a.c:1: error: warning: x") ≡ true)
warning_lines = (refl, refl, refl, refl, refl)

-- ---- many logs

-- The log with the number 1500 has the target `b`, and failed.
abbrev last_log : List Log
last_log = replicate 1500 (log [])
    ++ record { target = codes "b"; entries = Text (codes "warning:") ∷ Closing 9 (pos 3) ∷ []; state = Ended } ∷ []

log_1500 :
    (target_at last_log 1500 ≡ codes "b") × (entries_at 1500 last_log ≡ Text (codes "warning:") ∷ Closing 9 (pos 3) ∷ [])
    × (target_status last_log [] 1500 ≡ Some (pos 3)) × ((node_of last_log none_failed None 1500 Nothing Nothing).lines ≡ 1)
    × ((node_of last_log none_failed None 1500 Nothing Nothing).bytes ≡ 9)
    × ((node_of last_log none_failed None 1500 Nothing Nothing).warnings ≡ 1)
log_1500 = (refl, refl, refl, refl, refl, refl)

number_70000 : (node_of [] none_failed None 70000 Nothing Nothing).number ≡ 70000
number_70000 = refl

abbrev run : ℕ → RunTimes
run took = record { took = Some took; ended = None }

times_1500 : times_at (replicate 1500 (run 5) ++ run 7 ∷ run 8 ∷ []) 1500 ≡ run 7
times_1500 = refl

-- The last of 300 logs, each in the one before it, and the last of 301 logs in one log. A parent is the position of the log around.
abbrev parent_at : List Node → ℕ → Option (Option ℕ)
parent_at nodes position = option_map (λ (node : Node). node.parent) (slice_get nodes position)

parents :
    (parent_at (nodes_of [] none_failed None 0 (nested 300)) 299 ≡ Some (Some 298))
    × (parent_at (nodes_of [] none_failed None 0 (nested 300)) 300 ≡ None)
    × (parent_at (nodes_of [] none_failed None 0 (Opened (Requested [] NotOpened) 400 (in_a_row 301) Nothing)) 301 ≡ Some (Some 0))
    × (parent_at (nodes_of [] none_failed None 0 (Opened (Requested [] NotOpened) 400 (in_a_row 300) (in_a_row 1))) 301
    ≡ Some None)
parents = (refl, refl, refl, refl)

-- ---- visible events

abbrev mention : Event
mention = Mentioned 1 9 Made (codes "x") NotOpened

abbrev note : Event
note = EntryShown 1 (Note 9 (codes "check") [])

-- An empty line and an empty note are seen, and so is each failed target that is done.
visible : map is_visible
    (EntryShown 1 (Text []) ∷ note ∷ EntryShown 1 (Done 9 (pos 2) []) ∷ EntryShown 1 (Done 9 (negsuc 8) []) ∷ mention ∷ [])
    ≡ replicate 5 true
visible = refl

-- A log with a mention or a note in it isn't silent. Between two silent logs, each of these ends the row.
abbrev first_silent : Contents → Contents → ℕ
first_silent inside rest = (node_of [] none_failed None 9 inside rest).silent

abbrev three : List Event
three = mention ∷ note ∷ EntryShown 1 (Done 9 (pos 0) []) ∷ []

silence :
    (map (λ event. first_silent (Shown event Nothing) Nothing) three ≡ 0 ∷ 0 ∷ 1 ∷ [])
    × (map (λ event. first_silent Nothing (Shown event (in_a_row 1))) three ≡ 1 ∷ 1 ∷ 2 ∷ [])
    × (map (λ event. has_others (Shown event Nothing)) three ≡ true ∷ true ∷ false ∷ [])
silence = (refl, refl, refl)

-- A record at any depth says how a target without a closing record ended, even if a signal killed it.
abbrev done_at : ℕ → ℤ → Event
done_at depth status = EntryShown depth (Done 9 status (codes "a"))

statuses_of_others :
    (target_status (log [] ∷ []) (done_at 9 (pos 2) ∷ done_at 1 (pos 0) ∷ []) 0 ≡ Some (pos 2))
    × (target_status (log [] ∷ []) (done_at 1 (negsuc 8) ∷ done_at 1 (pos 0) ∷ []) 0 ≡ Some (negsuc 8))
    × (target_status (log [] ∷ []) (done_at 1 (pos 0) ∷ done_at 1 (pos 1) ∷ []) 0 ≡ Some (pos 0))
statuses_of_others = (refl, refl, refl)
