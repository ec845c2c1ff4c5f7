-- Definitions that state the laws about lines, entries, faults and logs.
use Rattle.std.specs.Prelude.{◌≡◌, ℕ, Bool, true, List, ◌∷◌, [], ◌++◌, Option, None, Some, IfSome, map}
use Rattle.redo_line.specs.declared.entry.Entry.{Entry}
use Rattle.redo_line.specs.declared.stream_fault.StreamFault.{StreamFault}
use Rattle.redo_line.specs.declared.stream_fault.StreamFault.TheVariants.{BadRecord, AfterClose, TooLong, Read, OutOfMemory, NotClosed}
use Rattle.redo_device.specs.Feed.{Stream}
use Rattle.redo_line.specs.Lines.{AreLines}
use Rattle.redo_line.specs.Log.{stream_of, closes, entries_of}
use Rattle.redo_line.specs.Source.{Source, source_fault, source_log, source_entries_before_fault, source}
use Rattle.redo_line.specs.Scan.{fault_so_far, entries_so_far}

-- Nothing has the property `P` except the value found, if there is one.
abbrev pub IsUnique : {A : Type 0} → (A → Type 0) → Option A → Type 0
IsUnique {A} P found = (other : A) → P other → found ≡ Some other

-- The bytes can't be split into other lines or another rest.
abbrev pub IsUniqueSplit : List ℕ → List (List ℕ) → List ℕ → Type 0
IsUniqueSplit bytes lines last = (others : List (List ℕ)) (other : List ℕ) → AreLines bytes others other → (others ≡ lines) × (other ≡ last)

-- Whether a fault is known before the end of the stream.
abbrev pub IsEarlyFault : StreamFault → Type 0
IsEarlyFault (BadRecord line) = Unit {0}
IsEarlyFault (AfterClose line) = Unit {0}
IsEarlyFault TooLong = Unit {0}
IsEarlyFault Read = ⊥
IsEarlyFault OutOfMemory = ⊥
IsEarlyFault NotClosed = ⊥

-- `front` is a prefix of `entries`.
abbrev pub IsPrefix : List Entry → List Entry → Type 0
IsPrefix front entries = (behind : List Entry) × (entries ≡ front ++ behind)

-- There is one entry for each line of the stream, in order.
abbrev pub HasOneEntryPerLine : List ℕ → Stream → List Entry → Type 0
HasOneEntryPerLine target stream entries = map Some entries ≡ entries_of target stream.bytes

-- No entry follows an entry that closes the log.
abbrev pub ClosesAtEnd : List Entry → Type 0
ClosesAtEnd entries = (before : List Entry) (entry : Entry) (after : List Entry) → entries ≡ before ++ entry ∷ after → closes (Some entry) ≡ true → after ≡ []

module _ (target : List ℕ) (max_bytes : ℕ) (must_close : Bool) where
  -- The source of a log with these bytes, then a failed read or the end of input.
  abbrev pub of_bytes : List ℕ → Bool → Source Stream
  of_bytes bytes fails = source target must_close (stream_of bytes fails)

  -- If bytes have a fault that is known early, every stream that begins with them has this fault.
  abbrev pub EarlyFaultIsFinal : Type 0
  EarlyFaultIsFinal =
      (bytes more : List ℕ) (failed fails : Bool) (fault : StreamFault) → IsEarlyFault fault → source_fault max_bytes (of_bytes bytes failed) ≡ Some fault
      → source_fault max_bytes (of_bytes (bytes ++ more) fails) ≡ Some fault

  -- Such a stream has the same entries before the fault.
  abbrev pub EntriesBeforeItAreFinal : Type 0
  EntriesBeforeItAreFinal =
      (bytes more : List ℕ) (failed fails : Bool) (fault : StreamFault) → IsEarlyFault fault → source_fault max_bytes (of_bytes bytes failed) ≡ Some fault
      → source_entries_before_fault max_bytes (of_bytes (bytes ++ more) fails) ≡ source_entries_before_fault max_bytes (of_bytes bytes failed)

  -- If bytes have no fault and then a read fails, the failed read is the fault.
  abbrev pub FailedReadIsFault : Type 0
  FailedReadIsFault = (bytes : List ℕ) → fault_so_far target max_bytes bytes ≡ None → source_fault max_bytes (of_bytes bytes true) ≡ Some Read

  -- Such a failed read loses no entry.
  abbrev pub FailedReadKeepsEntries : Type 0
  FailedReadKeepsEntries = (bytes : List ℕ) → fault_so_far target max_bytes bytes ≡ None → source_entries_before_fault max_bytes (of_bytes bytes true) ≡ entries_so_far target max_bytes bytes

  -- If bytes have no fault, their entries are a prefix of `source_entries_before_fault` for every stream that begins with them.
  abbrev pub EntriesPrefixPart : Type 0
  EntriesPrefixPart =
      (bytes more : List ℕ) (fails : Bool) → fault_so_far target max_bytes bytes ≡ None
      → IsPrefix (entries_so_far target max_bytes bytes) (source_entries_before_fault max_bytes (of_bytes (bytes ++ more) fails))

  -- They are also a prefix of the log of such a stream, if it has one.
  abbrev pub EntriesPrefixLog : Type 0
  EntriesPrefixLog =
      (bytes more : List ℕ) (fails : Bool) → fault_so_far target max_bytes bytes ≡ None
      → IfSome (source_log max_bytes (of_bytes (bytes ++ more) fails)) (IsPrefix (entries_so_far target max_bytes bytes))
