-- The log of a stream, or its fault. Lines are counted from 1.
use Rattle.std.specs.Prelude.{◌≡◌, ℕ, ◌+◌, ◌-◌, ◌<◌, Bool, true, false, ◌⊎◌, List, [], ◌∷◌, ◌++◌, Option, None, Some, length, take, map, filter_map, option_to_list, slice_get}
use Rattle.redo_line.specs.declared.entry.Entry.{Entry}
use Rattle.redo_line.specs.declared.entry.Entry.TheVariants.{Closing}
use Rattle.redo_line.specs.declared.stream_fault.StreamFault.{StreamFault}
use Rattle.redo_line.specs.declared.stream_fault.StreamFault.TheVariants.{BadRecord, AfterClose}
use Rattle.redo_device.specs.Feed.{Stream}
use Rattle.redo_line.specs.Fault.{end_fault}
use Rattle.redo_line.specs.Lines.{ended, rest, unended, all_lines}
use Rattle.redo_line.specs.Entry.{entry_of}

-- These bytes, then a failed read or the end of input.
abbrev pub stream_of : List ℕ → Bool → Stream
stream_of bytes fails = record { bytes = bytes; fails = fails }

-- Whether an entry closes the log, so that nothing may follow it.
abbrev pub closes : Option Entry → Bool
closes (Some (Closing pid status)) = true
closes entry = false

-- This line directly follows a line that closes the log.
pub record IsAfterClose (target bytes : List ℕ) (line : ℕ) : Type 0 where
  pub place : ℕ
  pub line_is : line ≡ place + 2
  pub closing : List ℕ
  pub stands : slice_get (ended bytes) place ≡ Some closing
  pub closes_it : closes (entry_of target closing true) ≡ true
  pub follows : place + 1 < length (all_lines bytes)

-- This line is a candidate, but not a record.
pub record IsBadRecord (target bytes : List ℕ) (line : ℕ) : Type 0 where
  pub place : ℕ
  pub line_is : line ≡ place + 1
  pub text : List ℕ
  pub stands : slice_get (ended bytes) place ≡ Some text
  pub has_none : entry_of target text true ≡ None

-- This line is invalid and has this fault. A line that follows a closing one has the fault `AfterClose`, even if it is bad too.
abbrev pub HasFault : List ℕ → List ℕ → ℕ → StreamFault → Type 0
HasFault target bytes line fault =
    (IsAfterClose target bytes line × (fault ≡ AfterClose line))
    ⊎ ((IsAfterClose target bytes line → ⊥) × IsBadRecord target bytes line × (fault ≡ BadRecord line))

-- This line is valid: it neither follows a closing line nor is a candidate that is not a record.
abbrev pub IsFineLine : List ℕ → List ℕ → ℕ → Type 0
IsFineLine target bytes line = (IsAfterClose target bytes line → ⊥) × (IsBadRecord target bytes line → ⊥)

-- This is the fault of the first invalid line.
pub record IsFirstFault (target bytes : List ℕ) (fault : StreamFault) : Type 0 where
  pub line : ℕ
  pub at_fault : HasFault target bytes line fault
  pub none_before : (earlier : ℕ) → earlier < line → IsFineLine target bytes earlier

-- The entry of each of these ended lines; none for a line that has no entry.
abbrev pub line_entries : List ℕ → List (List ℕ) → List (Option Entry)
line_entries target lines = map (λ line. entry_of target line true) lines

-- The entry of each line of these bytes. An unended line always has one.
abbrev pub entries_of : List ℕ → List ℕ → List (Option Entry)
entries_of target bytes = line_entries target (ended bytes) ++ map (λ line. entry_of target line false) (option_to_list (unended (rest bytes)))

-- The fault of the first invalid line, computed. `closed` is whether the line before `entries` closes the log, and `line` is the
-- number of the first line of `entries`.
unfoldable pub first_fault : Bool → ℕ → List (Option Entry) → Option StreamFault
first_fault closed line [] = None
first_fault true line (entry ∷ entries) = Some (AfterClose line)
first_fault false line (None ∷ entries) = Some (BadRecord line)
first_fault false line (Some entry ∷ entries) = first_fault (closes (Some entry)) (line + 1) entries

-- The fault of the first invalid line of these bytes, if there is one.
abbrev pub line_fault : List ℕ → List ℕ → Option StreamFault
line_fault target bytes = first_fault false 1 (entries_of target bytes)

abbrev pub or_else : Option StreamFault → Option StreamFault → Option StreamFault
or_else (Some fault) other = Some fault
or_else None other = other

-- The fault of a stream that may end with any line, if at most `max_bytes` bytes are allowed. Only the bytes of a line within this
-- limit count.
abbrev pub fault_of : List ℕ → ℕ → Stream → Option StreamFault
fault_of target max_bytes stream = or_else (line_fault target (take max_bytes stream.bytes)) (end_fault max_bytes stream)

-- The lines before the invalid line; all lines if none is invalid.
abbrev pub lines_before : Option StreamFault → List (List ℕ) → List (List ℕ)
lines_before (Some (BadRecord line)) lines = take (line - 1) lines
lines_before (Some (AfterClose line)) lines = take (line - 1) lines
lines_before fault lines = lines

-- The entries of the ended lines before the fault, within the limit.
abbrev pub entries_before_fault : List ℕ → ℕ → Stream → List Entry
entries_before_fault target max_bytes stream =
    filter_map (λ line. entry_of target line true) (lines_before (fault_of target max_bytes stream) (ended (take max_bytes stream.bytes)))

-- There is a log exactly if there is no fault.
abbrev pub unless_fault : Option StreamFault → List Entry → Option (List Entry)
unless_fault (Some fault) entries = None
unless_fault None entries = Some entries

-- The log of a stream without a fault: the entries of all its lines.
abbrev pub log_of : List ℕ → ℕ → Stream → Option (List Entry)
log_of target max_bytes stream = unless_fault (fault_of target max_bytes stream) (filter_map (λ entry. entry) (entries_of target stream.bytes))
