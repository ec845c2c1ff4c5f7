-- Examples of logs and faults of streams, computed.
-- Each has the target, the maximum number of bytes, the bytes, whether a failed read ends them, and the log, or the fault and the
-- entries before it.
use Rattle.std.proofs.Common.{◌≡◌, inl, inr, ℕ, Bool, true, false, List, [], ◌∷◌, ◌++◌, None, Some, pos, refl}
use Rattle.std.specs.Prelude.{codes}
use Rattle.std.specs.List.{AllByRecursion}
use Rattle.redo_line.specs.declared.entry.Entry.{Entry}
use Rattle.redo_line.specs.declared.entry.Entry.TheVariants.{Text, Mention, Done, Closing, Note}
use Rattle.redo_line.specs.declared.entry.How.TheVariants.{Made}
use Rattle.redo_line.specs.declared.stream_fault.StreamFault.{StreamFault}
use Rattle.redo_line.specs.declared.stream_fault.StreamFault.TheVariants.{BadRecord, AfterClose, TooLong, Read, OutOfMemory, NotClosed}
use Rattle.redo_line.specs.Decimal.{number}
use Rattle.redo_line.specs.Entry.{record_entry, entry_of}
use Rattle.redo_line.specs.Lines.{line_feed, split_lines, ended, rest}
use Rattle.redo_line.specs.Log.{stream_of, closes, first_fault, fault_of, lines_before, entries_before_fault, log_of}
use Rattle.redo_name.specs.Names.{reduce_suffix, normal}
use Rattle.redo_line.specs.Parts.{split_once, after_prefix}
use Rattle.redo_line.specs.Record.{fields_of, status_of}
use Rattle.redo_line.specs.Scan.{Scanned, FirstByteIsPastEnd}

abbrev line : List ℕ → List ℕ
line text = text ++ line_feed ∷ []

abbrev closing : List ℕ
closing = line (codes "@@REDO:done:7:1.0000@@ 0 a")

abbrev bad : List ℕ
bad = line (codes "@@REDO:do:7")

abbrev most : ℕ
most = 1073741824

record LogRow : Type 0 where
  target : List ℕ
  max_bytes : ℕ
  bytes : List ℕ
  log : List Entry

abbrev has_log : List ℕ → ℕ → List ℕ → List Entry → LogRow
has_log target max_bytes bytes log = record { target = target; max_bytes = max_bytes; bytes = bytes; log = log }

abbrev logs : List LogRow
logs =
    has_log (codes "all") most [] [] ∷
    has_log (codes "all") most (line (codes "hello")) (Text (codes "hello") ∷ []) ∷
    has_log (codes "all") most (codes "x") (Text (codes "x") ∷ []) ∷
    has_log (codes "all") most (codes "@@REDO:do:7") (Text (codes "@@REDO:do:7") ∷ []) ∷
    has_log (codes "a") most closing (Closing 7 (pos 0) ∷ []) ∷
    has_log (codes "a") most (codes "@@REDO:done:7:1.0000@@ 0 a") (Text (codes "@@REDO:done:7:1.0000@@ 0 a") ∷ []) ∷
    has_log (codes "b") most (closing ++ codes "z") (Done 7 (pos 0) (codes "a") ∷ Text (codes "z") ∷ []) ∷
    has_log (codes "a") 27 closing (Closing 7 (pos 0) ∷ []) ∷
    has_log (codes "all") 4 (line (codes "abc")) (Text (codes "abc") ∷ []) ∷
    has_log (codes "d/a") most (line (codes "@@REDO:do:7:1@@ ../e//x") ++ line (codes "t"))
    (Mention 7 Made (codes "e/x") ∷ Text (codes "t") ∷ []) ∷
    []

these_logs : AllByRecursion (λ row. log_of row.target row.max_bytes (stream_of row.bytes false) ≡ Some row.log) logs
unfolding split_lines ended rest first_fault entry_of record_entry fields_of status_of split_once after_prefix number normal reduce_suffix
these_logs = (refl, (refl, (refl, (refl, (refl, (refl, (refl, (refl, (refl, (refl, tt))))))))))

record FaultRow : Type 0 where
  target : List ℕ
  max_bytes : ℕ
  bytes : List ℕ
  fails : Bool
  fault : StreamFault
  part : List Entry

abbrev has_fault : List ℕ → ℕ → List ℕ → Bool → StreamFault → List Entry → FaultRow
has_fault target max_bytes bytes fails fault part =
    record { target = target; max_bytes = max_bytes; bytes = bytes; fails = fails; fault = fault; part = part }

abbrev faults : List FaultRow
faults =
    has_fault (codes "all") most (line (codes "ok") ++ bad) false (BadRecord 2) (Text (codes "ok") ∷ []) ∷
    has_fault (codes "all") most (bad ++ line (codes "ok")) false (BadRecord 1) [] ∷
    has_fault (codes "a") most (closing ++ codes "z") false (AfterClose 2) (Closing 7 (pos 0) ∷ []) ∷
    has_fault (codes "a") most (closing ++ bad) false (AfterClose 2) (Closing 7 (pos 0) ∷ []) ∷
    has_fault (codes "a") most (closing ++ line (codes "t")) false (AfterClose 2) (Closing 7 (pos 0) ∷ []) ∷
    has_fault (codes "a") 28 (closing ++ codes "z") false (AfterClose 2) (Closing 7 (pos 0) ∷ []) ∷
    has_fault (codes "a") 27 (closing ++ codes "z") false TooLong (Closing 7 (pos 0) ∷ []) ∷
    has_fault (codes "a") 26 (closing ++ codes "z") false TooLong [] ∷
    has_fault (codes "a") 26 closing true TooLong [] ∷
    has_fault (codes "all") 4 (line (codes "abc") ++ codes "d") false TooLong (Text (codes "abc") ∷ []) ∷
    has_fault (codes "all") 12 (bad ++ codes "more") false (BadRecord 1) [] ∷
    has_fault (codes "all") 11 (bad ++ codes "more") false TooLong [] ∷
    has_fault (codes "a") most (line (codes "x")) true Read (Text (codes "x") ∷ []) ∷
    has_fault (codes "a") most (line (codes "x") ++ codes "y") true Read (Text (codes "x") ∷ []) ∷
    has_fault (codes "a") most bad true (BadRecord 1) [] ∷
    []

these_faults : AllByRecursion (λ row. fault_of row.target row.max_bytes (stream_of row.bytes row.fails) ≡ Some row.fault) faults
unfolding split_lines ended rest first_fault entry_of record_entry fields_of status_of split_once after_prefix number normal reduce_suffix
these_faults = (refl, (refl, (refl, (refl, (refl, (refl, (refl, (refl, (refl, (refl, (refl, (refl, (refl, (refl, (refl, tt)))))))))))))))

these_parts : AllByRecursion (λ row. entries_before_fault row.target row.max_bytes (stream_of row.bytes row.fails) ≡ row.part) faults
unfolding split_lines ended rest first_fault entry_of record_entry fields_of status_of split_once after_prefix number normal reduce_suffix
these_parts = (refl, (refl, (refl, (refl, (refl, (refl, (refl, (refl, (refl, (refl, (refl, (refl, (refl, (refl, (refl, tt)))))))))))))))

a_fault_leaves_no_log : log_of (codes "a") most (stream_of bad false) ≡ None
unfolding split_lines ended rest first_fault entry_of record_entry fields_of status_of split_once after_prefix number normal reduce_suffix
a_fault_leaves_no_log = refl

a_failed_read_leaves_no_log : log_of (codes "a") most (stream_of (line (codes "x")) true) ≡ None
unfolding split_lines ended rest first_fault entry_of record_entry fields_of status_of split_once after_prefix number normal reduce_suffix
a_failed_read_leaves_no_log = refl

-- A scan that consumed a closing record, and one that consumed as many bytes as allowed.
abbrev behind_closing : Scanned
behind_closing = record { target = codes "a"; max_bytes = most; must_close = false; bytes = closing; failed_with = None }

abbrev at_the_limit : Scanned
at_the_limit = record { target = codes "a"; max_bytes = 27; must_close = false; bytes = closing; failed_with = None }

a_late_byte_is_refused_first : FirstByteIsPastEnd behind_closing (codes "zz") (AfterClose 2)
unfolding split_lines ended rest first_fault entry_of record_entry fields_of status_of split_once after_prefix number normal reduce_suffix
a_late_byte_is_refused_first = record { not_failed = refl; after_close_or_too_long = inl (2, refl); fault_is = refl }

a_byte_too_many_is_refused_first : FirstByteIsPastEnd at_the_limit (codes "zz") TooLong
unfolding split_lines ended rest first_fault entry_of record_entry fields_of status_of split_once after_prefix number normal reduce_suffix
a_byte_too_many_is_refused_first = record { not_failed = refl; after_close_or_too_long = inr refl; fault_is = refl }

-- Only the closing record closes the log.
what_closes : (closes (Some (Closing 7 (pos 1))) ≡ true) × (closes (Some (Done 7 (pos 0) (codes "a"))) ≡ false)
    × (closes (Some (Note 7 (codes "done") (codes "a"))) ≡ false) × (closes (Some (Text closing)) ≡ false) × (closes None ≡ false)
what_closes = (refl, refl, refl, refl, refl)

-- The lines before a fault, among three lines.
abbrev three : List (List ℕ)
three = codes "x" ∷ codes "y" ∷ codes "z" ∷ []

before_a_fault :
    (lines_before (Some (BadRecord 2)) three ≡ codes "x" ∷ [])
    × (lines_before (Some (AfterClose 3)) three ≡ codes "x" ∷ codes "y" ∷ [])
    × (lines_before (Some TooLong) three ≡ three)
    × (lines_before (Some Read) three ≡ three)
    × (lines_before (Some OutOfMemory) three ≡ three)
    × (lines_before (Some NotClosed) three ≡ three)
    × (lines_before None three ≡ three)
before_a_fault = (refl, refl, refl, refl, refl, refl, refl)
