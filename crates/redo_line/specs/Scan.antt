-- The model of a scan, and the results of its calls.
use Rattle.std.specs.Prelude.{◌≡◌, ◌≢◌, ◌<◌, ◌≤◌, ℕ, Bool, true, false, ◌⊎◌, List, [], ◌∷◌, ◌++◌, Option, None, Some, Result, Ok, Err, length, map, take, drop, slice_range}
use Rattle.redo_line.specs.declared.entry.Entry.{Entry}
use Rattle.redo_line.specs.declared.entry.Entry.TheVariants.{Text}
use Rattle.redo_line.specs.declared.scan.Step.{Step}
use Rattle.redo_line.specs.declared.scan.Step.TheVariants.{Found, More}
use Rattle.redo_line.specs.declared.stream_fault.StreamFault.{StreamFault}
use Rattle.redo_line.specs.declared.stream_fault.StreamFault.TheVariants.{AfterClose, TooLong, Read, OutOfMemory, NotClosed}
use Rattle.redo_device.specs.Feed.{Stream}
use Rattle.redo_line.specs.Lines.{ended, rest}
use Rattle.redo_line.specs.Entry.{entry_of}
use Rattle.redo_line.specs.Log.{stream_of, fault_of, line_entries, entries_before_fault}
use Rattle.redo_line.specs.Source.{Source, source}

-- The model of a scan: the target of the log, the maximum number of bytes, whether the log must be closed, the bytes consumed so
-- far, and the fault that was returned, if any.
pub record Scanned : Type 0 where
  pub target : List ℕ
  pub max_bytes : ℕ
  pub must_close : Bool
  pub bytes : List ℕ
  pub failed_with : Option StreamFault

-- ---- the bytes so far

-- The stream of the bytes so far, after which no read has failed.
abbrev pub so_far : List ℕ → Stream
so_far bytes = stream_of bytes false

module _ (target : List ℕ) (max_bytes : ℕ) where
  -- The fault of the bytes so far.
  abbrev pub fault_so_far : List ℕ → Option StreamFault
  fault_so_far bytes = fault_of target max_bytes (so_far bytes)

  -- The entries of the lines that ended so far, before the fault if there is one.
  abbrev pub entries_so_far : List ℕ → List Entry
  entries_so_far bytes = entries_before_fault target max_bytes (so_far bytes)

  -- `bytes` after `before` end one more line, which has this entry. No byte follows the line, and there is no fault.
  pub record EndsOneLine (before bytes : List ℕ) (entry : Entry) : Type 0 where
    pub no_fault : fault_so_far (before ++ bytes) ≡ None
    pub line : List ℕ
    pub lines_are : ended (before ++ bytes) ≡ ended before ++ line ∷ []
    pub no_rest : rest (before ++ bytes) ≡ []
    pub entry_is : entry_of target line true ≡ Some entry
    pub entries : entries_so_far (before ++ bytes) ≡ entries_so_far before ++ entry ∷ []

  -- `bytes` after `before` end further lines, which have these entries. No byte follows the last line, and there is no fault.
  pub record EndLines (before bytes : List ℕ) (more : List Entry) : Type 0 where
    pub no_fault : fault_so_far (before ++ bytes) ≡ None
    pub lines : List (List ℕ)
    pub lines_are : ended (before ++ bytes) ≡ ended before ++ lines
    pub no_rest : rest (before ++ bytes) ≡ []
    pub entries_are : line_entries target lines ≡ map Some more
    pub entries : entries_so_far (before ++ bytes) ≡ entries_so_far before ++ more

  -- `bytes` after `before` end no line, and there is no fault.
  pub record EndsNoLine (before bytes : List ℕ) : Type 0 where
    pub no_fault : fault_so_far (before ++ bytes) ≡ None
    pub lines : ended (before ++ bytes) ≡ ended before
    pub entries : entries_so_far (before ++ bytes) ≡ entries_so_far before

  -- `bytes` after `before` have this fault, and no further entry is before it. More bytes don't change that (law `early_fault_is_final`).
  pub record HaveFault (before bytes : List ℕ) (fault : StreamFault) : Type 0 where
    pub fault_is : fault_so_far (before ++ bytes) ≡ Some fault
    pub entries : entries_so_far (before ++ bytes) ≡ entries_so_far before

-- ---- the results of a scan

-- The scan has returned no fault, and the bytes that it consumed have none.
pub record IsFaultFree (scan : Scanned) : Type 0 where
  pub not_failed : scan.failed_with ≡ None
  pub no_fault : fault_so_far scan.target scan.max_bytes scan.bytes ≡ None

-- The scan, once it has also consumed these bytes.
abbrev pub consume : List ℕ → Scanned → Scanned
consume bytes scan = record { target = scan.target; max_bytes = scan.max_bytes; must_close = scan.must_close; bytes = scan.bytes ++ bytes; failed_with = None }

-- The scan, once it has returned this fault, having consumed nothing more.
abbrev pub fail_with : StreamFault → Scanned → Scanned
fail_with fault scan = record { target = scan.target; max_bytes = scan.max_bytes; must_close = scan.must_close; bytes = scan.bytes; failed_with = Some fault }

-- These bytes were consumed. They end one more line, which has this entry.
abbrev pub FindsEntry : Scanned → Scanned → List ℕ → Entry → Type 0
FindsEntry old new bytes entry = (new ≡ consume bytes old) × EndsOneLine old.target old.max_bytes old.bytes bytes entry

-- These bytes were consumed. They end further lines, at least one and at most `most`, and the entries of these lines were appended.
pub record FindsEntries (old new : Scanned) (bytes : List ℕ) (most : ℕ) (first all : List Entry) : Type 0 where
  pub more : List Entry
  pub taken : new ≡ consume bytes old
  pub ends : EndLines old.target old.max_bytes old.bytes bytes more
  pub some : 0 < length more
  pub few : length more ≤ most
  pub put : all ≡ first ++ more

-- These bytes were consumed. No line ends in them, and there is no further entry.
abbrev pub ConsumesAll : Scanned → Scanned → List ℕ → Type 0
ConsumesAll old new bytes = (new ≡ consume bytes old) × EndsNoLine old.target old.max_bytes old.bytes bytes

-- A step over these bytes may return this fault: the fault of the bytes, or `OutOfMemory`.
abbrev pub MayFailWith : Scanned → List ℕ → StreamFault → Type 0
MayFailWith scan bytes fault = (fault ≡ OutOfMemory) ⊎ HaveFault scan.target scan.max_bytes scan.bytes bytes fault

-- A step returned this fault, stored it, and consumed no bytes. It is never a fault that is known only at the end of the input.
pub record FailsWith (old new : Scanned) (bytes : List ℕ) (fault : StreamFault) : Type 0 where
  pub fault_stored : new ≡ fail_with fault old
  pub may_fail : old.failed_with ≡ None → MayFailWith old bytes fault
  pub early : (fault ≢ Read) × (fault ≢ NotClosed)

-- A step with a chunk from an offset on: it returns the entry of the next line, consumes all bytes, or returns a fault.
abbrev pub Steps : Scanned → Scanned → List ℕ → ℕ → Result Step StreamFault → Type 0
Steps old new chunk from (Ok (Found entry upto)) = (from < upto) × (upto ≤ length chunk) × FindsEntry old new (slice_range chunk from upto) entry
Steps old new chunk from (Ok More) = ConsumesAll old new (drop from chunk)
Steps old new chunk from (Err fault) = FailsWith old new (drop from chunk) fault

-- Whether the fault is a byte after the closing record or past the limit.
abbrev pub IsAfterCloseOrTooLong : StreamFault → Type 0
IsAfterCloseOrTooLong fault = ((line : ℕ) × (fault ≡ AfterClose line)) ⊎ (fault ≡ TooLong)

-- No fault was returned yet, and this is the fault of the bytes consumed and the first of `bytes`: that byte is after the closing
-- record or past the limit.
pub record FirstByteIsPastEnd (scan : Scanned) (bytes : List ℕ) (fault : StreamFault) : Type 0 where
  pub not_failed : scan.failed_with ≡ None
  pub after_close_or_too_long : IsAfterCloseOrTooLong fault
  pub fault_is : fault_so_far scan.target scan.max_bytes (scan.bytes ++ take 1 bytes) ≡ Some fault

-- The entries of the lines that ended in the bytes consumed.
abbrev pub entries_in : Scanned → List Entry
entries_in scan = entries_so_far scan.target scan.max_bytes scan.bytes

-- The source of the log that is scanned, if the input ends after the bytes consumed.
abbrev pub source_in : Scanned → Source Stream
source_in scan = source scan.target scan.must_close (so_far scan.bytes)

-- The entry of the unended line, if there is one.
abbrev pub unended_entry : Option (List ℕ) → Option Entry
unended_entry None = None
unended_entry (Some line) = Some (Text line)
