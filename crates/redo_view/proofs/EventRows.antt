-- Examples of events and of forms, computed.
use Rattle.std.proofs.Common.{◌≡◌, ℕ, ◌+◌, true, false, List, [], ◌∷◌, Option, None, Some, Ok, Err, Bor, pos, arith, refl, ap}
use Rattle.std.specs.Prelude.{◌^◌, codes}
use Rattle.redo_device.specs.Sink.{Output}
use Rattle.redo_line.specs.declared.entry.Entry.{Entry}
use Rattle.redo_line.specs.declared.entry.Entry.TheVariants.{Text, Mention, Done, Closing, Note}
use Rattle.redo_line.specs.declared.entry.How.TheVariants.{Made, Waiting, Locked}
use Rattle.redo_logs.specs.declared.entry_ref.EntryRef.TheVariants as of
use Rattle.redo_logs.specs.declared.log_state.LogState.TheVariants.{Ended}
use Rattle.redo_logs.specs.Logs.{Log}
use Rattle.redo_options.specs.declared.options.Options.{Options}
use Rattle.redo_view.specs.declared.event.EventRef.TheVariants as ref
use Rattle.redo_view.specs.declared.event.Opening.TheVariants.{NotOpened, OpenedBefore, OpensHere}
use Rattle.redo_view.specs.declared.form.FormFault.TheVariants.{Write, OutOfMemory}
use Rattle.redo_view.specs.Event.{Event, opening_of, opens_here}
use Rattle.redo_view.specs.Event.Event.{Requested, Mentioned, EntryShown, LogEnds}
use Rattle.redo_view.specs.EventRef.{IsWrittenAlone, event_value}
use Rattle.redo_view.specs.Expansion.{shown_events, show_log, show_log_within}
use Rattle.redo_view.specs.Form.{FormWrites, bytes_of, state_after, text_events}
use Rattle.redo_view.specs.Nesting.{open_after, open_after_all}
use Rattle.redo_view.specs.Text.{event_text}

abbrev a : List ℕ
a = codes "a"

abbrev b : List ℕ
b = codes "b"

abbrev x : List ℕ
x = codes "x"

abbrev log : List ℕ → List Entry → Log
log target entries = record { target = target; entries = entries; state = Ended }

abbrev options : Options
options = record { recursive = true; unchanged = false; details = true; debug_locks = false; debug_pids = false }

abbrev locks : Options
locks = record options { debug_locks = true }

abbrev shallow : Options
shallow = record options { recursive = false }

abbrev shallow_locks : Options
shallow_locks = record locks { recursive = false }

-- Whether a log is opened: it may be or not, it was or not, and it has a number or not.
openings :
    (opening_of true false None ≡ NotOpened) × (opening_of true false (Some 3) ≡ OpensHere 3)
    × (opening_of false false (Some 3) ≡ NotOpened)
    × (opening_of true true (Some 3) ≡ OpenedBefore 3) × (opening_of false true (Some 3) ≡ OpenedBefore 3)
openings = (refl, refl, refl, refl, refl)

opens : (opens_here NotOpened ≡ false) × (opens_here (OpenedBefore 3) ≡ false) × (opens_here (OpensHere 3) ≡ true)
opens = (refl, refl, refl)

-- A log ends after the logs that it opens. `x` has no log, and `a` was opened before.
abbrev logs : List Log
logs = log a (Mention 7 Made b ∷ Mention 8 Waiting b ∷ Mention 7 Made x ∷ Text (codes "t") ∷ Closing 7 (pos 0) ∷ [])
    ∷ log b (Mention 9 Made a ∷ Done 9 (pos 2) x ∷ []) ∷ []

all_events :
    (shown_events logs locks (a ∷ b ∷ [])
    ≡ Requested a (OpensHere 0) ∷ Mentioned 1 7 Made b (OpensHere 1) ∷ Mentioned 2 9 Made a (OpenedBefore 0)
    ∷ EntryShown 2 (Done 9 (pos 2) x) ∷ LogEnds 2
    ∷ Mentioned 1 8 Waiting b (OpenedBefore 1) ∷ Mentioned 1 7 Made x NotOpened ∷ EntryShown 1 (Text (codes "t"))
    ∷ EntryShown 1 (Closing 7 (pos 0)) ∷ LogEnds 1 ∷ [])
    × (shown_events logs options (b ∷ a ∷ [])
    ≡ Requested b (OpensHere 1) ∷ Mentioned 1 9 Made a (OpensHere 0) ∷ Mentioned 2 7 Made x NotOpened ∷ EntryShown 2 (Text (codes "t"))
    ∷ EntryShown 2 (Closing 7 (pos 0)) ∷ LogEnds 2
    ∷ EntryShown 1 (Done 9 (pos 2) x) ∷ LogEnds 1 ∷ [])
    × (shown_events logs shallow (b ∷ a ∷ [])
    ≡ Requested b (OpensHere 1) ∷ Mentioned 1 9 Made a NotOpened ∷ EntryShown 1 (Done 9 (pos 2) x) ∷ LogEnds 1
    ∷ Requested a (OpensHere 0) ∷ Mentioned 1 7 Made x NotOpened ∷ EntryShown 1 (Text (codes "t")) ∷ EntryShown 1 (Closing 7 (pos 0))
    ∷ LogEnds 1 ∷ [])
    × (shown_events logs shallow_locks (a ∷ [])
    ≡ Requested a (OpensHere 0) ∷ Mentioned 1 7 Made b NotOpened ∷ Mentioned 1 8 Waiting b NotOpened ∷ Mentioned 1 7 Made x NotOpened
    ∷ EntryShown 1 (Text (codes "t")) ∷ EntryShown 1 (Closing 7 (pos 0)) ∷ LogEnds 1 ∷ [])
    × (shown_events logs options (x ∷ []) ≡ Requested x NotOpened ∷ LogEnds 1 ∷ [])
unfolding show_log_within show_log
all_events = (refl, refl, refl, refl, refl)

-- The text of each event.
texts :
    (event_text locks (Requested a (OpensHere 0)) ≡ codes "redo  a\n")
    × (event_text locks (Mentioned 1 7 Waiting b NotOpened) ≡ codes "redo    b (WAITING)\n")
    × (event_text options (Mentioned 1 7 Waiting b (OpensHere 1)) ≡ codes "redo    b\n")
    × (event_text options (EntryShown 2 (Text (codes "t"))) ≡ codes "t\n")
    × (event_text options (EntryShown 2 (Note 7 (codes "check") b)) ≡ codes "redo      (b)\n") × (event_text options (LogEnds 2) ≡ [])
texts = (refl, refl, refl, refl, refl, refl)

-- The models of events, and which events are written by themselves.
abbrev at : List ℕ → Bor (List ℕ)
at bytes = record { ref_ptr = (0, 0); now = bytes }

values :
    (event_value (ref.Requested (at a) (OpensHere 1)) ≡ Requested a (OpensHere 1))
    × (event_value (ref.Mentioned 2 7 Locked (at a) NotOpened) ≡ Mentioned 2 7 Locked a NotOpened)
    × (event_value (ref.EntryShown 2 (of.Note 7 (at a) (at b))) ≡ EntryShown 2 (Note 7 a b)) × (event_value (ref.LogEnds 2) ≡ LogEnds 2)
values = (refl, refl, refl, refl)

written_alone :
    IsWrittenAlone (ref.Requested (at a) (OpensHere 1)) × IsWrittenAlone (ref.Mentioned 2 7 Locked (at a) NotOpened)
    × IsWrittenAlone (ref.EntryShown 2 (of.Note 7 (at a) (at b)))
    × IsWrittenAlone (ref.EntryShown 2 (of.Done 7 (pos 1) (at a))) × IsWrittenAlone (ref.EntryShown 2 (of.Closing 7 (pos 1)))
    × IsWrittenAlone (ref.LogEnds 2)
written_alone = (tt, omega arith, (omega arith, tt), (omega arith, tt), (omega arith, tt), omega arith)

-- A text line isn't, nor is a mention as an entry, nor an event that is too deep.
not_written_alone :
    (IsWrittenAlone (ref.EntryShown 2 (of.Text (at a))) → ⊥) × (IsWrittenAlone (ref.EntryShown 2 (of.Mention 7 Made (at a))) → ⊥)
    × (IsWrittenAlone (ref.Mentioned (2 ^ 60) 7 Locked (at a) NotOpened) → ⊥)
    × (IsWrittenAlone (ref.EntryShown (2 ^ 60) (of.Closing 7 (pos 1))) → ⊥) × (IsWrittenAlone (ref.LogEnds (2 ^ 60)) → ⊥)
not_written_alone = (
  (λ is. is.1),
  (λ is. is.1),
  (λ is. omega (arith, is)),
  (λ is. let below = is.0 in omega (arith, below)),
  (λ is. omega (arith, is)),
)

-- A form that writes the number of events before an event.
abbrev count_bytes : ℕ → Event → List ℕ
count_bytes count event = count ∷ []

abbrev count_after : ℕ → Event → ℕ
count_after count event = count + 1

counted :
    (bytes_of count_bytes count_after 5 (LogEnds 2 ∷ LogEnds 1 ∷ []) ≡ 5 ∷ 6 ∷ []) × (bytes_of count_bytes count_after 5 [] ≡ [])
    × (state_after count_after 5 (LogEnds 2 ∷ LogEnds 1 ∷ []) ≡ 7) × (state_after count_after 5 [] ≡ 5)
counted = (refl, refl, refl, refl)

lines : text_events 2 (a ∷ b ∷ []) ≡ EntryShown 2 (Text a) ∷ EntryShown 2 (Text b) ∷ []
lines = refl

-- How much of the bytes `abc` was written.
abbrev took : List ℕ → ℕ → Option Output
took bytes failures = Some (record { bytes = bytes; failures = failures })

writes :
    FormWrites (took [] 0) (took (codes "abc") 0) (codes "abc") (Ok tt)
    × FormWrites (took [] 0) (took (codes "ab") 1) (codes "abc") (Err Write)
    × FormWrites (took [] 0) (took (codes "ab") 0) (codes "abc") (Err OutOfMemory)
writes = (refl, (2, omega arith, refl), (2, refl))

abbrev bytes_in : Option Output → List ℕ
bytes_in None = []
bytes_in (Some taken) = taken.bytes

abbrev failures_in : Option Output → ℕ
failures_in None = 0
failures_in (Some taken) = taken.failures

writes_not :
    (FormWrites (took [] 0) (took (codes "ab") 0) (codes "abc") (Ok tt) → ⊥)
    × (FormWrites (took [] 0) (took (codes "ab") 0) (codes "abc") (Err Write) → ⊥)
    × (FormWrites (took [] 0) (took (codes "ab") 1) (codes "abc") (Err OutOfMemory) → ⊥)
writes_not = (
  (λ is. let bytes = ap bytes_in is in cc),
  (λ is. let failures = ap failures_in is.2 in cc),
  (λ is. let failures = ap failures_in is.1 in cc),
)

-- The number of open logs: an event's depth must be this number, and a log must be open to end.
open_logs :
    (open_after 0 (Requested a (OpensHere 0)) ≡ Some 1) × (open_after 1 (Requested a (OpensHere 0)) ≡ None)
    × (open_after 0 (Requested a NotOpened) ≡ Some 0)
    × (open_after 1 (Mentioned 1 7 Made b (OpensHere 1)) ≡ Some 2) × (open_after 1 (Mentioned 1 7 Made b (OpenedBefore 1)) ≡ Some 1)
    × (open_after 2 (Mentioned 1 7 Made b NotOpened) ≡ None)
    × (open_after 2 (EntryShown 2 (Closing 7 (pos 0))) ≡ Some 2) × (open_after 1 (EntryShown 2 (Closing 7 (pos 0))) ≡ None)
    × (open_after 2 (LogEnds 2) ≡ Some 1) × (open_after 2 (LogEnds 1) ≡ None) × (open_after 0 (LogEnds 0) ≡ None)
open_logs = (refl, refl, refl, refl, refl, refl, refl, refl, refl, refl, refl)

open_logs_after :
    (open_after_all 0 (Requested a (OpensHere 0) ∷ Mentioned 1 7 Made b (OpensHere 1) ∷ LogEnds 2 ∷ LogEnds 1 ∷ []) ≡ Some 0)
    × (open_after_all 0 (Requested a (OpensHere 0) ∷ Mentioned 1 7 Made b (OpensHere 1) ∷ LogEnds 2 ∷ []) ≡ Some 1)
    × (open_after_all 0 (Requested a (OpensHere 0) ∷ LogEnds 1 ∷ LogEnds 1 ∷ []) ≡ None)
open_logs_after = (refl, refl, refl)
