-- The state of a scan, as it stores the bytes that it consumed.
use Rattle.std.specs.Prelude.{◌≡◌, ◌≢◌, ◌⊎◌, ℕ, zero, suc, ◌+◌, ◌-◌, ◌≤◌, ◌^◌, ◌<◌, Bool, true, false, List, [], ◌∷◌, ◌++◌, Option, None, Some, Result, Err, IfOk, IfErr, IfSome, IfNone, drop, length}
use Rattle.std.specs.List.{slice_range}
use Rattle.redo_line.specs.declared.entry.Entry.{Entry}
use Rattle.redo_line.specs.declared.stream_fault.StreamFault.{StreamFault}
use Rattle.redo_line.specs.declared.stream_fault.StreamFault.TheVariants.{AfterClose, TooLong, OutOfMemory, Read, NotClosed}
use Rattle.redo_line.specs.Lines.{ended, rest}
use Rattle.redo_line.specs.Log.{closes, line_entries}
use Rattle.redo_line.specs.Scan.{fault_so_far, EndLines, EndsNoLine, HaveFault}

pub record Progress : Type 0 where
  pub target : List ℕ
  pub max_bytes : ℕ
  -- The bytes since the last line feed.
  pub kept : List ℕ
  -- The number of bytes consumed, and the number of lines that ended in them.
  pub taken : ℕ
  pub lines : ℕ
  -- Whether the last of these lines closes the log.
  pub closed : Bool

-- Whether the last of these entries closes the log; `closed` if there is none.
abbrev pub closed_by : Bool → List (Option Entry) → Bool
closed_by closed [] = closed
closed_by closed (entry ∷ entries) = closed_by (closes entry) entries

-- This is the state after these bytes, which have no fault.
pub record IsAfter (progress : Progress) (bytes : List ℕ) : Type 0 where
  pub no_fault : fault_so_far progress.target progress.max_bytes bytes ≡ None
  pub kept_is : progress.kept ≡ rest bytes
  pub taken_is : progress.taken ≡ length bytes
  pub lines_are : progress.lines ≡ length (ended bytes)
  pub closed_is : progress.closed ≡ closed_by false (line_entries progress.target (ended bytes))

-- `bytes` were consumed and end further lines with the entries `more`.
pub record AdvancesBy (old new : Progress) (before bytes : List ℕ) (more : List Entry) : Type 0 where
  pub after : IsAfter new (before ++ bytes)
  pub ends : EndLines old.target old.max_bytes before bytes more

-- `bytes` were consumed and end further lines, at least one and at most `most`, whose entries were appended.
pub record FindsEntries (old new : Progress) (before bytes : List ℕ) (most : ℕ) (first all : List Entry) : Type 0 where
  pub more : List Entry
  pub finds : AdvancesBy old new before bytes more
  pub some : 0 < length more
  pub few : length more ≤ most
  pub put : all ≡ first ++ more

-- `bytes` were consumed and end no line.
pub record ConsumesAll (old new : Progress) (before bytes : List ℕ) : Type 0 where
  pub after : IsAfter new (before ++ bytes)
  pub ends : EndsNoLine old.target old.max_bytes before bytes

-- `bytes` have this fault, and no further entry is before it.
abbrev pub FailsWith : Progress → List ℕ → List ℕ → StreamFault → Type 0
FailsWith progress before bytes fault = HaveFault progress.target progress.max_bytes before bytes fault

-- The fault of a byte after this number of lines: if the log is closed, the byte is after the closing record.
abbrev pub after_close_fault : ℕ → Bool → Option StreamFault
after_close_fault lines true = Some (AfterClose (lines + 1))
after_close_fault lines false = None

-- The fault of a byte by its position: without `room` left for it, it is past the limit.
abbrev pub byte_fault : ℕ → ℕ → Bool → Option StreamFault
byte_fault zero lines closed = Some TooLong
byte_fault (suc room) lines closed = after_close_fault lines closed

-- The fault that the first of these bytes has by its position.
abbrev pub first_byte_fault : Progress → List ℕ → Option StreamFault
first_byte_fault progress [] = None
first_byte_fault progress (byte ∷ bytes) = byte_fault (progress.max_bytes - progress.taken) progress.lines progress.closed

-- A step consumes bytes of a chunk from the offset `from` on: up to the end of at most `most` lines, whose entries are appended, or,
-- if no line ends, up to the end of the chunk.
pub record Advances (old new : Progress) (chunk : List ℕ) (from most : ℕ) (first all : List Entry) (result : Result (Option ℕ) StreamFault) : Type 0 where
  -- The result is the offset after the bytes consumed, if lines ended, and at least one byte was consumed.
  pub range : IfOk result (λ found. IfSome found (λ end_offset. (from < end_offset) × (end_offset ≤ length chunk)))
  pub found : (before : List ℕ) → IsAfter old before → IfOk result (λ found. IfSome found (λ end_offset. FindsEntries old new before (slice_range chunk from end_offset) most first all))
  pub rest_consumed : (before : List ℕ) → IsAfter old before → IfOk result (λ found. IfNone found (ConsumesAll old new before (drop from chunk)))
  pub entries_unchanged : IfOk result (λ found. IfNone found (all ≡ first))
  -- After a fault the entries are unchanged. The fault of the first byte's position is returned without allocating.
  pub fault : (before : List ℕ) → IsAfter old before → IfErr result (λ fault. (fault ≡ OutOfMemory) ⊎ FailsWith old before (drop from chunk) fault)
  pub immediate : (fault : StreamFault) → first_byte_fault old (drop from chunk) ≡ Some fault → result ≡ Err fault
  pub unchanged_on_err : IfErr result (λ _. all ≡ first)
  pub target : new.target ≡ old.target
  pub max_bytes : new.max_bytes ≡ old.max_bytes

-- The invariant of a scan: if it has returned no fault, this is its state after the bytes that it consumed.
pub record IsScan (progress : Progress) (bytes : List ℕ) (failed_with : Option StreamFault) : Type 0 where
  pub limit : progress.max_bytes ≤ 2 ^ 40
  pub after : failed_with ≡ None → IsAfter progress bytes
  pub never_read_fault : failed_with ≢ Some Read
  pub never_not_closed : failed_with ≢ Some NotClosed
