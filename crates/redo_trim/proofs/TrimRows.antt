-- Rows of trimmed events, of gauges, and of the form that writes the events.
use Rattle.std.proofs.Common.{◌≡◌, ℕ, ◌+◌, List, [], ◌∷◌, ◌++◌, map, None, Some, Bor, pos, refl}
use Rattle.std.specs.Prelude.{codes}
use Rattle.redo_line.specs.declared.entry.Entry.TheVariants.{Text, Closing, Note}
use Rattle.redo_line.specs.declared.entry.How.TheVariants.{Made}
use Rattle.redo_view.specs.declared.event.Opening.TheVariants.{NotOpened, OpenedBefore, OpensHere}
use Rattle.redo_view.specs.Event.{Event}
use Rattle.redo_view.specs.Event.Event.{Requested, Mentioned, EntryShown, LogEnds}
use Rattle.redo_outline.specs.Contents.{contents_of}
use Rattle.redo_outline.specs.Contents.Contents.{Nothing, Shown, Opened}
use Rattle.redo_trim.specs.declared.limit.Gauge.{Gauge}
use Rattle.redo_trim.specs.declared.limit.Limit.{Limit}
use Rattle.redo_trim.specs.declared.limit.Showing.TheVariants as showing
use Rattle.redo_trim.specs.declared.trimmed.Trimmed.{Trimmed}
use Rattle.redo_trim.specs.Laws.{head_lines, left_out, lines_in, other_events, tail_lines}
use Rattle.redo_trim.specs.Trim.{after_shown, gauges_after, kept, limit_of, line_size, marker, showing_in, showing_of, trim, trimmed}
use Rattle.redo_trim.specs.TrimmedForm.{form_after, form_bytes}

abbrev pub limit : ℕ → ℕ → Limit
limit head tail = record { head = head; tail = tail }

abbrev gauge : Limit → ℕ → Gauge
gauge limit seen = record { limit = limit; seen = seen }

abbrev pub text : List ℕ → Event
text line = EntryShown 1 (Text line)

-- ---- one line

-- A line of 8 bytes ends in the head. A longer one doesn't, and begins in it.
first_lines : (showing_of (gauge (limit 8 19) 0) 8 ≡ showing.Whole) × (showing_of (gauge (limit 8 19) 0) 9 ≡ showing.Marker)
    × (showing_of (gauge (limit 8 19) 4) 4 ≡ showing.Whole) × (showing_of (gauge (limit 8 19) 4) 5 ≡ showing.Marker)
first_lines = (refl, refl, refl, refl)

-- A line that begins at the end of the head is the first one that is left out.
later_lines : (showing_of (gauge (limit 8 19) 8) 1 ≡ showing.Marker) × (showing_of (gauge (limit 8 19) 9) 1 ≡ showing.Nothing)
    × (showing_of (gauge (limit 8 19) 18) 1 ≡ showing.Nothing) × (showing_of (gauge (limit 8 19) 19) 1 ≡ showing.Whole)
    × (showing_of (gauge (limit 8 19) 100) 1 ≡ showing.Whole)
later_lines = (refl, refl, refl, refl, refl)

-- No head, no tail, and neither.
extreme_lines : (showing_of (gauge (limit 0 5) 0) 1 ≡ showing.Marker) × (showing_of (gauge (limit 0 0) 0) 1 ≡ showing.Whole)
    × (showing_of (gauge (limit 8 4) 0) 9 ≡ showing.Marker) × (showing_of (gauge (limit 8 4) 4) 9 ≡ showing.Whole)
    × (showing_of (gauge (limit 0xFFFFFFFFFFFFFFFF 0xFFFFFFFFFFFFFFFF) 0xFFFFFFFFFFFFFFFF) 1 ≡ showing.Whole)
extreme_lines = (refl, refl, refl, refl, refl)

in_logs : (showing_in None 9 ≡ showing.Whole) × (showing_in (Some (gauge (limit 8 19) 0)) 9 ≡ showing.Marker)
in_logs = (refl, refl)

-- ---- limits

abbrev limits : List Limit
limits = limit 6 20 ∷ limit 0 12 ∷ []

limits_by_number : (limit_of limits 0 ≡ limit 6 20) × (limit_of limits 1 ≡ limit 0 12) × (limit_of limits 2 ≡ limit 0 0)
    × (limit_of [] 0 ≡ limit 0 0)
limits_by_number = (refl, refl, refl, refl)

sizes : (line_size [] ≡ 1) × (line_size (codes "a one") ≡ 6)
sizes = (refl, refl)

-- ---- one event

these_markers : marker 3 ≡ EntryShown 3
    (Note 0 [] (codes "Lines are left out here. The command at the end of this page shows all of them."))
these_markers = refl

-- Only text lines are left out.
kept_events :
    (kept (gauge (limit 8 19) 9 ∷ gauge (limit 0 0) 0 ∷ []) (text (codes "a")) ≡ [])
    × (kept (gauge (limit 8 19) 8 ∷ []) (text (codes "a")) ≡ marker 1 ∷ [])
    × (kept (gauge (limit 8 19) 6 ∷ []) (text (codes "a")) ≡ text (codes "a") ∷ [])
    × (kept (gauge (limit 8 19) 7 ∷ []) (text (codes "a")) ≡ marker 1 ∷ []) × (kept [] (text (codes "a")) ≡ text (codes "a") ∷ [])
    × (kept (gauge (limit 8 19) 9 ∷ []) (EntryShown 1 (Note 9 (codes "a") [])) ≡ EntryShown 1 (Note 9 (codes "a") []) ∷ [])
    × (kept (gauge (limit 8 19) 9 ∷ []) (LogEnds 1) ≡ LogEnds 1 ∷ [])
    × (kept (gauge (limit 8 19) 9 ∷ []) (Mentioned 1 9 Made [] NotOpened) ≡ Mentioned 1 9 Made [] NotOpened ∷ [])
kept_events = (refl, refl, refl, refl, refl, refl, refl, refl)

-- ---- gauges

gauges :
    (gauges_after limits [] (Requested (codes "a") (OpensHere 1)) ≡ gauge (limit 0 12) 0 ∷ [])
    × (gauges_after limits (gauge (limit 6 20) 3 ∷ []) (Mentioned 1 9 Made (codes "b") (OpensHere 2))
    ≡ gauge (limit 0 0) 0 ∷ gauge (limit 6 20) 3 ∷ [])
    × (gauges_after limits (gauge (limit 6 20) 3 ∷ []) (Mentioned 1 9 Made (codes "b") (OpenedBefore 0)) ≡ gauge (limit 6 20) 3 ∷ [])
    × (gauges_after limits (gauge (limit 6 20) 3 ∷ []) (Mentioned 1 9 Made (codes "b") NotOpened) ≡ gauge (limit 6 20) 3 ∷ [])
    × (gauges_after limits (gauge (limit 0 12) 3 ∷ gauge (limit 6 20) 5 ∷ []) (LogEnds 2) ≡ gauge (limit 6 20) 5 ∷ [])
    × (gauges_after limits [] (LogEnds 0) ≡ [])
    × (gauges_after limits (gauge (limit 6 20) 3 ∷ []) (EntryShown 1 (Closing 9 (pos 0))) ≡ gauge (limit 6 20) 3 ∷ [])
gauges = (refl, refl, refl, refl, refl, refl, refl)

-- Only the gauge of the innermost log counts a line, and only up to 2^64 - 1.
text_gauges :
    (gauges_after limits (gauge (limit 0 12) 3 ∷ gauge (limit 6 20) 5 ∷ []) (text (codes "ab"))
    ≡ gauge (limit 0 12) 6 ∷ gauge (limit 6 20) 5 ∷ []) × (gauges_after limits [] (text (codes "ab")) ≡ [])
    × (gauges_after limits (gauge (limit 6 20) 0xFFFFFFFFFFFFFFFE ∷ []) (text []) ≡ gauge (limit 6 20) 0xFFFFFFFFFFFFFFFF ∷ [])
    × (gauges_after limits (gauge (limit 6 20) 0xFFFFFFFFFFFFFFFE ∷ []) (text (codes "ab")) ≡ gauge (limit 6 20) 0xFFFFFFFFFFFFFFFF ∷ [])
    × (after_shown (text (codes "ab")) (gauge (limit 0 12) 3 ∷ gauge (limit 6 20) 5 ∷ [])
    ≡ gauge (limit 0 12) 6 ∷ gauge (limit 6 20) 5 ∷ [])
text_gauges = (refl, refl, refl, refl, refl)

-- ---- two logs, one in the other

abbrev lines : List ℕ → Event
lines line = EntryShown 2 (Text line)

-- The lines of `a` and the lines of `b` begin at the bytes 0, 6, 12 and 20.
abbrev pub events : List Event
events =
    Requested (codes "a") (OpensHere 0) ∷ text (codes "a one") ∷ Mentioned 1 9 Made (codes "b") (OpensHere 1) ∷ lines (codes "b one")
    ∷ lines (codes "b two")
    ∷ EntryShown 2 (Note 9 (codes "check") (codes "n")) ∷ lines (codes "b three") ∷ lines (codes "b four") ∷ LogEnds 2
    ∷ text (codes "a two") ∷ text (codes "a three") ∷ text (codes "a four") ∷ LogEnds 1 ∷ []

-- The second line and the third one of `a` are left out, and the first two of `b`.
two_logs :
    trimmed limits [] events
    ≡ Requested (codes "a") (OpensHere 0) ∷ text (codes "a one") ∷ Mentioned 1 9 Made (codes "b") (OpensHere 1) ∷ marker 2
    ∷ EntryShown 2 (Note 9 (codes "check") (codes "n")) ∷ lines (codes "b three")
    ∷ lines (codes "b four") ∷ LogEnds 2 ∷ marker 1 ∷ text (codes "a four") ∷ LogEnds 1 ∷ []
two_logs = refl

one_log : trimmed (limit 6 20 ∷ []) [] events
    ≡ Requested (codes "a") (OpensHere 0) ∷ text (codes "a one") ∷ Mentioned 1 9 Made (codes "b") (OpensHere 1) ∷ lines (codes "b one")
    ∷ lines (codes "b two")
    ∷ EntryShown 2 (Note 9 (codes "check") (codes "n")) ∷ lines (codes "b three") ∷ lines (codes "b four") ∷ LogEnds 2 ∷ marker 1
    ∷ text (codes "a four") ∷ LogEnds 1 ∷ []
one_log = refl

-- There is no head, and the second log has no limit.
no_head : trimmed (limit 0 20 ∷ []) [] events
    ≡ Requested (codes "a") (OpensHere 0) ∷ marker 1 ∷ Mentioned 1 9 Made (codes "b") (OpensHere 1) ∷ lines (codes "b one")
    ∷ lines (codes "b two")
    ∷ EntryShown 2 (Note 9 (codes "check") (codes "n")) ∷ lines (codes "b three") ∷ lines (codes "b four") ∷ LogEnds 2
    ∷ text (codes "a four") ∷ LogEnds 1 ∷ []
no_head = refl

-- Logs are requested in another order. Each has the limit of its number.
other_order :
    trimmed (limit 5 12 ∷ limit 6 13 ∷ []) []
    (Requested (codes "b") (OpensHere 1) ∷ text (codes "b one") ∷ text (codes "b two") ∷ text (codes "b") ∷ LogEnds 1
    ∷ Requested (codes "a") (OpensHere 0) ∷ text (codes "a one") ∷ text (codes "a two") ∷ text (codes "a") ∷ LogEnds 1 ∷ [])
    ≡ Requested (codes "b") (OpensHere 1) ∷ text (codes "b one") ∷ marker 1 ∷ LogEnds 1
    ∷ Requested (codes "a") (OpensHere 0) ∷ marker 1 ∷ text (codes "a") ∷ LogEnds 1 ∷ []
other_order = refl

tree :
    trim limits [] (contents_of events)
    ≡ Opened (Requested (codes "a") (OpensHere 0)) 0
    (Shown (text (codes "a one")) (Opened (Mentioned 1 9 Made (codes "b") (OpensHere 1)) 1
    (Shown (marker 2) (Shown (EntryShown 2 (Note 9 (codes "check") (codes "n")))
    (Shown (lines (codes "b three")) (Shown (lines (codes "b four")) Nothing))))
    (Shown (marker 1) (Shown (text (codes "a four")) Nothing)))) Nothing
tree = refl

-- The log that is opened in `a` has no limit.
other_tree :
    trim (limit 6 20 ∷ []) [] (contents_of events)
    ≡ Opened (Requested (codes "a") (OpensHere 0)) 0
    (Shown (text (codes "a one")) (Opened (Mentioned 1 9 Made (codes "b") (OpensHere 1)) 1
    (Shown (lines (codes "b one")) (Shown (lines (codes "b two"))
    (Shown (EntryShown 2 (Note 9 (codes "check") (codes "n"))) (Shown (lines (codes "b three")) (Shown (lines (codes "b four")) Nothing)))))
    (Shown (marker 1) (Shown (text (codes "a four")) Nothing)))) Nothing
other_tree = refl

-- ---- events other than text lines

others : other_events (text (codes "a") ∷ marker 1 ∷ EntryShown 1 (Note 9 (codes "hint") []) ∷ Mentioned 1 9 Made [] NotOpened
    ∷ EntryShown 1 (Closing 9 (pos 0)) ∷ LogEnds 1 ∷ [])
    ≡ EntryShown 1 (Note 9 (codes "hint") []) ∷ Mentioned 1 9 Made [] NotOpened ∷ EntryShown 1 (Closing 9 (pos 0)) ∷ LogEnds 1 ∷ []
others = refl

-- ---- the lines of one log

-- They begin at the bytes 0, 4, 8, 14 and 19.
abbrev pub five : List (List ℕ)
five = codes "one" ∷ codes "two" ∷ codes "three" ∷ codes "four" ∷ codes "five" ∷ []

parts :
    (head_lines 8 five ≡ codes "one" ∷ codes "two" ∷ []) × (head_lines 7 five ≡ codes "one" ∷ []) × (head_lines 3 five ≡ [])
    × (tail_lines (limit 8 19) five ≡ codes "five" ∷ []) × (left_out (limit 8 19) five ≡ codes "three" ∷ codes "four" ∷ [])
    × (tail_lines (limit 8 14) five ≡ codes "four" ∷ codes "five" ∷ []) × (left_out (limit 8 14) five ≡ codes "three" ∷ [])
    × (tail_lines (limit 8 15) five ≡ codes "five" ∷ []) × (tail_lines (limit 8 25) five ≡ []) × (left_out (limit 8 8) five ≡ [])
    × (tail_lines (limit 8 4) five ≡ codes "three" ∷ codes "four" ∷ codes "five" ∷ [])
parts = (refl, refl, refl, refl, refl, refl, refl, refl, refl, refl, refl)

-- ---- one log whose lines are these

abbrev log_with : List Event → List Event
log_with shown = Requested (codes "a") (OpensHere 0) ∷ (shown ++ LogEnds 1 ∷ [])

abbrev whole : List Event
whole = log_with (map text five)

abbrev trimmed_to : ℕ → ℕ → List Event
trimmed_to head tail = trimmed (limit head tail ∷ []) [] whole

-- The head ends and the tail begins with a line; they end and begin in a line; one line is left out; there is no head; there is no tail.
cut_logs :
    (trimmed_to 8 19 ≡ log_with (text (codes "one") ∷ text (codes "two") ∷ marker 1 ∷ text (codes "five") ∷ []))
    × (trimmed_to 7 15 ≡ log_with (text (codes "one") ∷ marker 1 ∷ text (codes "five") ∷ []))
    × (trimmed_to 8 14 ≡ log_with (text (codes "one") ∷ text (codes "two") ∷ marker 1 ∷ text (codes "four") ∷ text (codes "five") ∷ []))
    × (trimmed_to 0 19 ≡ log_with (marker 1 ∷ text (codes "five") ∷ []))
    × (trimmed_to 8 24 ≡ log_with (text (codes "one") ∷ text (codes "two") ∷ marker 1 ∷ []))
cut_logs = (refl, refl, refl, refl, refl)

-- Nothing is left out: there are no bytes between them, the head has all lines, or there is no limit.
whole_logs :
    (trimmed_to 8 8 ≡ whole) × (trimmed_to 8 4 ≡ whole) × (trimmed_to 24 24 ≡ whole)
    × (trimmed_to 0xFFFFFFFFFFFFFFFF 0xFFFFFFFFFFFFFFFF ≡ whole) × (trimmed_to 0 0 ≡ whole) × (trimmed [] [] whole ≡ whole)
whole_logs = (refl, refl, refl, refl, refl, refl)

lines_of_logs : lines_in (contents_of
    (text (codes "x") ∷ Mentioned 1 9 Made [] (OpensHere 1) ∷ lines (codes "y") ∷ LogEnds 2 ∷ EntryShown 1 (Closing 9 (pos 0))
    ∷ text (codes "z") ∷ [])) ≡ codes "x" ∷ codes "z" ∷ []
lines_of_logs = refl

-- ---- a form

-- A form whose state is a number: it writes the number and adds one.
abbrev form_at : Bor (List Limit) → ℕ → ℕ → Trimmed ℕ
form_at limits state seen = record { form = state; gauges = gauge (limit 8 19) seen ∷ []; limits = limits }

abbrev number_bytes : ℕ → Event → List ℕ
number_bytes state event = state ∷ []

abbrev number_after : ℕ → Event → ℕ
number_after state event = state + 1

forms : (given : Bor (List Limit)) → (form_bytes number_bytes number_after (form_at given 7 0) (text (codes "a")) ≡ 7 ∷ [])
    × (form_bytes number_bytes number_after (form_at given 7 9) (text (codes "a")) ≡ [])
    × (form_after number_after (form_at given 7 0) (text (codes "a")) ≡ form_at given 8 2)
    × (form_after number_after (form_at given 7 9) (text (codes "a")) ≡ form_at given 7 11)
forms given = (refl, refl, refl, refl)
