-- Facts of a single log, its target, and the status of this target.
use Rattle.std.specs.Prelude.{ℕ, suc, ◌+◌, ◌==◌, Bool, true, false, min, ℤ, pos, zero, List, [], ◌∷◌, Option, None, Some, length, nat_eq, codes, slice_get, if◌then◌else◌}
use Rattle.std.specs.List.{filter_map, starts_with, sum_by}
use Rattle.std.specs.Option.{option_or}
use Rattle.redo_line.specs.declared.entry.Entry.{Entry}
use Rattle.redo_line.specs.declared.entry.Entry.TheVariants.{Text, Done, Closing}
use Rattle.redo_logs.specs.Logs.{Log, log_number, targets_of}
use Rattle.redo_view.specs.Event.{Event}
use Rattle.redo_view.specs.Event.Event.{EntryShown}

-- A number as it fits into 64 bits: larger ones are cut down to the largest that fits.
abbrev pub saturated : ℕ → ℕ
saturated number = min number 0xFFFFFFFFFFFFFFFF

-- The target of the log with this number; the empty name if there is no such log.
abbrev pub name_or_empty : Option (List ℕ) → List ℕ
name_or_empty None = []
name_or_empty (Some name) = name

abbrev pub target_at : List Log → ℕ → List ℕ
target_at logs number = name_or_empty (slice_get (targets_of logs) number)

-- The entries of the log with this number; none if there is no such log.
abbrev pub entries_at : ℕ → List Log → List Entry
entries_at number [] = []
entries_at zero (log ∷ logs) = log.entries
entries_at (suc number) (log ∷ logs) = entries_at number logs

abbrev pub text_of : Entry → Option (List ℕ)
text_of (Text line) = Some line
text_of entry = None

-- The text lines of a log: the output of its target.
abbrev pub texts_of : List Entry → List (List ℕ)
texts_of entries = filter_map text_of entries

-- The number of bytes of text lines, with their line feeds.
abbrev pub text_size : List (List ℕ) → ℕ
text_size texts = sum_by (λ text. length text + 1) texts

-- Whether `part` occurs in `bytes`.
abbrev pub contains : List ℕ → List ℕ → Bool
contains part [] = starts_with nat_eq [] part
contains part (byte ∷ bytes) = if starts_with nat_eq (byte ∷ bytes) part then true else contains part bytes

-- Whether a line is one by which compilers warn.
abbrev pub is_warning : List ℕ → Bool
is_warning line = contains (codes "warning:") line

abbrev pub closing_status : Entry → Option ℤ
closing_status (Closing pid status) = Some status
closing_status entry = None

-- The status in the closing record, if the log has one.
abbrev pub status_in_log : List Entry → Option ℤ
status_in_log entries = slice_get (filter_map closing_status entries) 0

-- Whether an entry of another log says that the target of log `number` is done, and with which status.
abbrev pub status_if : Bool → ℤ → Option ℤ
status_if condition status = if condition then Some status else None

abbrev pub is_number : ℕ → Option ℕ → Bool
is_number number None = false
is_number number (Some other) = number == other

abbrev pub done_status : List Log → ℕ → Event → Option ℤ
done_status logs number (EntryShown depth (Done pid status name)) = status_if (is_number number (log_number name logs)) status
done_status logs number event = None

-- The status of the target of log `number`: the status in its closing record, or else the status in the first record in another log
-- that says that the target is done.
abbrev pub target_status : List Log → List Event → ℕ → Option ℤ
target_status logs events number = option_or (status_in_log (entries_at number logs)) (slice_get (filter_map (done_status logs number) events) 0)

-- Whether a target failed: its status is not 0.
abbrev pub is_failure : Option ℤ → Bool
is_failure None = false
is_failure (Some (pos zero)) = false
is_failure (Some status) = true
