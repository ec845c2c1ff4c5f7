-- Examples of streams that must end with their closing record, computed.
-- Each has the target, the maximum number of bytes, the bytes, whether a failed read ends them, and the log, or the fault and the
-- entries before it.
use Rattle.std.proofs.Common.{◌≡◌, ℕ, Bool, true, false, List, [], ◌∷◌, ◌++◌, None, Some, pos, refl}
use Rattle.std.specs.Prelude.{codes}
use Rattle.std.specs.List.{AllByRecursion}
use Rattle.redo_line.specs.declared.entry.Entry.{Entry}
use Rattle.redo_line.specs.declared.entry.Entry.TheVariants.{Text, Done, Closing}
use Rattle.redo_line.specs.declared.stream_fault.StreamFault.{StreamFault}
use Rattle.redo_line.specs.declared.stream_fault.StreamFault.TheVariants.{BadRecord, AfterClose, TooLong, Read, NotClosed}
use Rattle.redo_line.specs.Decimal.{number}
use Rattle.redo_line.specs.Entry.{record_entry, entry_of}
use Rattle.redo_line.specs.Lines.{line_feed, split_lines, ended, rest}
use Rattle.redo_line.specs.Log.{stream_of, first_fault}
use Rattle.redo_line.specs.Source.{StreamInput, source_fault, source_log, source_entries_before_fault, source, sources, with_stream}
use Rattle.redo_name.specs.Names.{reduce_suffix, normal}
use Rattle.redo_line.specs.Parts.{split_once, after_prefix}
use Rattle.redo_line.specs.Record.{fields_of, status_of}

abbrev line : List ℕ → List ℕ
line text = text ++ line_feed ∷ []

abbrev closing : List ℕ
closing = codes "@@REDO:done:7:1.0000@@ 0 a"

abbrev most : ℕ
most = 1073741824

record LogRow : Type 0 where
  bytes : List ℕ
  log : List Entry

abbrev has_log : List ℕ → List Entry → LogRow
has_log bytes log = record { bytes = bytes; log = log }

-- Logs of the target `a`.
abbrev logs : List LogRow
logs =
    has_log (line closing) (Closing 7 (pos 0) ∷ []) ∷
    has_log (line (codes "x") ++ line closing) (Text (codes "x") ∷ Closing 7 (pos 0) ∷ []) ∷
    []

these_logs : AllByRecursion (λ row. source_log most (source (codes "a") true (stream_of row.bytes false)) ≡ Some row.log) logs
unfolding split_lines ended rest first_fault entry_of record_entry fields_of status_of split_once after_prefix number normal reduce_suffix
these_logs = (refl, (refl, tt))

record FaultRow : Type 0 where
  max_bytes : ℕ
  bytes : List ℕ
  fails : Bool
  fault : StreamFault
  part : List Entry

abbrev has_fault : ℕ → List ℕ → Bool → StreamFault → List Entry → FaultRow
has_fault max_bytes bytes fails fault part =
    record { max_bytes = max_bytes; bytes = bytes; fails = fails; fault = fault; part = part }

-- Faults of the target `a`.
abbrev faults : List FaultRow
faults =
    has_fault most (line (codes "x")) false NotClosed (Text (codes "x") ∷ []) ∷
    has_fault most [] false NotClosed [] ∷
    has_fault most closing false NotClosed [] ∷
    has_fault most (line (codes "x") ++ closing) false NotClosed (Text (codes "x") ∷ []) ∷
    has_fault most (line (codes "@@REDO:done:7:1.0000@@ 0 b")) false NotClosed (Done 7 (pos 0) (codes "b") ∷ []) ∷
    has_fault most (line closing ++ codes "z") false (AfterClose 2) (Closing 7 (pos 0) ∷ []) ∷
    has_fault most (line closing) true Read (Closing 7 (pos 0) ∷ []) ∷
    has_fault most (line (codes "x")) true Read (Text (codes "x") ∷ []) ∷
    has_fault most (line (codes "@@REDO:")) false (BadRecord 1) [] ∷
    has_fault 4 (line (codes "abc") ++ codes "d") false TooLong (Text (codes "abc") ∷ []) ∷
    []

these_faults : AllByRecursion (λ row.
    source_fault row.max_bytes (source (codes "a") true (stream_of row.bytes row.fails)) ≡ Some row.fault) faults
unfolding split_lines ended rest first_fault entry_of record_entry fields_of status_of split_once after_prefix number normal reduce_suffix
these_faults = (refl, (refl, (refl, (refl, (refl, (refl, (refl, (refl, (refl, (refl, tt))))))))))

these_parts : AllByRecursion (λ row.
    source_entries_before_fault row.max_bytes (source (codes "a") true (stream_of row.bytes row.fails)) ≡ row.part) faults
unfolding split_lines ended rest first_fault entry_of record_entry fields_of status_of split_once after_prefix number normal reduce_suffix
these_parts = (refl, (refl, (refl, (refl, (refl, (refl, (refl, (refl, (refl, (refl, tt))))))))))

no_log : source_log most (source (codes "a") true (stream_of (line (codes "x")) false)) ≡ None
unfolding split_lines ended rest first_fault entry_of record_entry fields_of status_of split_once after_prefix number normal reduce_suffix
no_log = refl

-- If the stream may end with any line, there is no such fault.
may_end_anywhere : source_log most (source (codes "a") false (stream_of (line (codes "x")) false)) ≡ Some (Text (codes "x") ∷ [])
unfolding split_lines ended rest first_fault entry_of record_entry fields_of status_of split_once after_prefix number normal reduce_suffix
may_end_anywhere = refl

-- Sources of logs, with numbers instead of streams.
abbrev marked : Bool → ℕ → StreamInput ℕ
marked must_close stream = record { must_close = must_close; stream = stream }

made_from :
    (sources (codes "a" ∷ codes "b" ∷ []) (marked true 1 ∷ marked false 2 ∷ [])
    ≡ source (codes "a") true 1 ∷ source (codes "b") false 2 ∷ [])
    × (sources [] (marked true 1 ∷ []) ≡ [])
    × (sources {A = ℕ} (codes "a" ∷ []) [] ≡ [])
    × (with_stream false (source (codes "a") true true) ≡ source (codes "a") true false)
made_from = (refl, refl, refl, refl)
