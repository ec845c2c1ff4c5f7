-- The items that a sender is expected to post for a stream: its entries and its fault, as far as memory allows.
use Rattle.std.specs.Prelude.{◌≡◌, ℕ, ◌⊎◌, List, Option, None, Some}
use Rattle.redo_line.specs.declared.entry.Entry.{Entry}
use Rattle.redo_line.specs.declared.stream_fault.StreamFault.{StreamFault}
use Rattle.redo_line.specs.declared.stream_fault.StreamFault.TheVariants.{OutOfMemory}
use Rattle.redo_device.specs.Feed.{Stream, SomeStream}
use Rattle.redo_line.specs.Laws.{IsPrefix}
use Rattle.redo_line.specs.Source.{Source, source_fault, source_log, source_entries_before_fault, with_stream}

abbrev pub log_or_part : Option (List Entry) → List Entry → List Entry
log_or_part (Some log) part = log
log_or_part None part = part

-- The entries of a stream: the entries of its log, or, if it has none, of the lines before its fault.
abbrev pub reported_entries : ℕ → Source Stream → List Entry
reported_entries max_bytes source = log_or_part (source_log max_bytes source) (source_entries_before_fault max_bytes source)

module _ (max_bytes : ℕ) (source : Source Stream) (entries : List Entry) (fault : Option StreamFault) where
  -- All entries of the stream, and its fault, if it has one.
  abbrev pub IsComplete : Type 0
  IsComplete = (entries ≡ reported_entries max_bytes source) × (fault ≡ source_fault max_bytes source)

  -- A prefix of the stream's entries, and the fault `OutOfMemory`.
  abbrev pub IsTruncated : Type 0
  IsTruncated = IsPrefix entries (reported_entries max_bytes source) × (fault ≡ Some OutOfMemory)

  -- The entries and the fault are as expected of a sender.
  abbrev pub IsExpected : Type 0
  IsExpected = IsComplete ⊎ IsTruncated

-- A stream's target and must-close flag, and the known stream of its reader.
abbrev pub KnownSource : Type 0
KnownSource = Source (Option Stream)

-- The entries and the fault are as expected for the stream of a reader; for an opaque reader, for some stream.
abbrev pub IsExpectedFor : ℕ → KnownSource → List Entry → Option StreamFault → Type 0
IsExpectedFor max_bytes given entries fault = SomeStream given.stream (λ stream. IsExpected max_bytes (with_stream stream given) entries fault)
