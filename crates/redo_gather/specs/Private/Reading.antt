-- How the entries of a stream are read, chunk by chunk.
use Rattle.std.specs.Prelude.{◌≡◌, ℕ, ◌⊎◌, false, List, ◌++◌, Option, None, Some, Result, Ok, Err, IfErr, OnOk, take}
use Rattle.redo_line.specs.declared.entry.Entry.{Entry}
use Rattle.redo_line.specs.declared.stream_fault.StreamFault.{StreamFault}
use Rattle.redo_line.specs.declared.stream_fault.StreamFault.TheVariants.{OutOfMemory}
use Rattle.redo_device.specs.Feed.{Stream, SomeStream}
use Rattle.redo_line.specs.Laws.{IsPrefix}
use Rattle.redo_line.specs.Source.{source}
use Rattle.redo_gather.specs.Expected.{KnownSource, IsExpectedFor}
use Rattle.redo_line.specs.Scan.{Scanned, IsFaultFree, entries_in, entries_so_far, fault_so_far, consume}

-- The scan has no fault, and these are the entries of the lines that it consumed.
pub record IsRead (scan : Scanned) (entries : List Entry) : Type 0 where
  pub fault_free : IsFaultFree scan
  pub entries_are : entries ≡ entries_in scan

-- After the bytes of the scan `initial`, the chunk was consumed up to `offset`, and these are the entries of all these bytes.
abbrev pub IsReadTo : Scanned → List ℕ → ℕ → Scanned → List Entry → Type 0
IsReadTo initial chunk offset scan entries = (scan ≡ consume (take offset chunk) initial) × IsRead scan entries

-- All bytes of the reader's stream were consumed, no failed read ends them, and these are the entries of its lines.
pub record IsReadToEnd (known : Option Stream) (old new : Scanned) (entries : List Entry) : Type 0 where
  pub target_is : new.target ≡ old.target
  pub limit_is : new.max_bytes ≡ old.max_bytes
  pub flag_is : new.must_close ≡ old.must_close
  pub read : IsRead new entries
  pub all : SomeStream known (λ stream. (stream.bytes ≡ new.bytes) × (stream.fails ≡ false))

module _ (scan : Scanned) (chunk : List ℕ) (entries : List Entry) where
  -- The bytes up to the end of the chunk have this fault, and these are the entries before it.
  pub record IsStopped (fault : StreamFault) : Type 0 where
    pub fault_is : fault_so_far scan.target scan.max_bytes (scan.bytes ++ chunk) ≡ Some fault
    pub entries_are : entries ≡ entries_so_far scan.target scan.max_bytes (scan.bytes ++ chunk)

  -- These entries are a prefix of the entries of some prefix of these bytes, which has no fault.
  pub record IsCutIn : Type 0 where
    pub bytes : List ℕ
    pub suffix : List ℕ
    pub bytes_are : scan.bytes ++ chunk ≡ bytes ++ suffix
    pub no_fault : fault_so_far scan.target scan.max_bytes bytes ≡ None
    pub is_prefix : IsPrefix entries (entries_so_far scan.target scan.max_bytes bytes)

  -- The chunk is rejected, for its fault or because memory ran out.
  abbrev pub IsRefused : StreamFault → Type 0
  IsRefused fault = IsStopped fault ⊎ (IsCutIn × (fault ≡ OutOfMemory))

-- The fault of a result, if it has one.
abbrev pub fault_in : {A : Type 0} → Result A StreamFault → Option StreamFault
fault_in (Ok done) = None
fault_in (Err fault) = Some fault

-- ---- what a sink takes
--
-- `Taken` holds of exactly the entries that the sink has taken.

-- The entries of the lines that end in a chunk were taken, up to its end or until it was rejected, after those taken before.
pub record IsChunkTaken {A : Type 0} (Taken : List Entry → Type 0) (chunk : List ℕ) (old new : Scanned) (result : Result A StreamFault) : Type 0 where
  pub entries : List Entry
  pub taken : Taken entries
  pub consumed : OnOk result (new ≡ consume chunk old)
  pub read : OnOk result (IsRead new entries)
  pub refused : IfErr result (IsRefused old chunk entries)

-- The entries of a stream's lines were taken, up to its end or its fault.
pub record AreChunksTaken {A : Type 0} (Taken : List Entry → Type 0) (known : Option Stream) (old new : Scanned) (result : Result A StreamFault) : Type 0 where
  pub entries : List Entry
  pub taken : Taken entries
  pub ended : OnOk result (IsReadToEnd known old new entries)
  pub expected : IfErr result (λ fault. IsExpectedFor old.max_bytes (source old.target old.must_close known) entries (Some fault))

-- The entries of a stream were taken. With the fault in the result they are as expected for it.
pub record AreEntriesTaken {A : Type 0} (Taken : List Entry → Type 0) (max_bytes : ℕ) (given : KnownSource) (result : Result A StreamFault) : Type 0 where
  pub entries : List Entry
  pub taken : Taken entries
  pub expected : IsExpectedFor max_bytes given entries (fault_in result)
