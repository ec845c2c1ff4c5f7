-- What is read of a baseline, the capture of an earlier build.
use Rattle.std.specs.Prelude.{◌≡◌, ℕ, List, Option, None, Some, Result, Ok, Err, is_some, slice_get}
use Rattle.redo_device.specs.Feed.{Stream}
use Rattle.redo_logs.specs.Logs.{Log}
use Rattle.redo_gather.specs.Streams.{AreLogsOfReaders, IsLowestFault}
use Rattle.redo_index.specs.declared.index_entry.IndexEntry.{IndexEntry}
use Rattle.redo_index.specs.Index.{listed_targets, numbers_of}
use Rattle.redo_command.specs.declared.baseline.BaselineFiles.{BaselineFiles}
use Rattle.redo_command.specs.declared.baseline_fault.BaselineFault.{BaselineFault}
use Rattle.redo_command.specs.declared.baseline_fault.BaselineFault.TheVariants as baseline
use Rattle.redo_command.specs.Logs.{listed_inputs}
use Rattle.redo_command.specs.NamesFile.{byte_limit}

-- Whether these are the logs that the index of a baseline lists, or the fault of the first log that has one, with the log's position
-- and number. `known` is what is known of the log with each number.
abbrev pub AreBaselineLogs : (ℕ → Option Stream) → List IndexEntry → Result (List Log) BaselineFault → Type 0
AreBaselineLogs known index (Ok logs) = AreLogsOfReaders byte_limit (listed_targets index) (listed_inputs known index) logs
AreBaselineLogs known index (Err (baseline.Log position number fault)) =
    IsLowestFault byte_limit (listed_targets index) (listed_inputs known index) position fault
    × (slice_get (numbers_of index) position ≡ Some number)
AreBaselineLogs known index (Err other) = ⊥

-- Whether this is read of a baseline by its index, or by why that can't be read.
abbrev pub IsReadOf : (ℕ → Option Stream) → Result (List IndexEntry) BaselineFault → Result (List Log) BaselineFault → Type 0
IsReadOf known (Ok index) logs = AreBaselineLogs known index logs
IsReadOf known (Err fault) logs = logs ≡ Err fault

-- Whether this is read of a baseline with these files: its logs, or its fault. Without a baseline, nothing is read.
abbrev pub IsReadOfFiles : {L : Type 0} → (L → ℕ → Option Stream) → Option (BaselineFiles L) → Option (Result (List Log) BaselineFault) → Type 0
IsReadOfFiles known None logs = logs ≡ None
IsReadOfFiles known (Some files) None = ⊥
IsReadOfFiles known (Some files) (Some logs) = IsReadOf (known files.logs) files.index logs

-- Whether a baseline is read exactly if one is asked for, by its directory.
abbrev pub IsReadIfAsked : Option (List ℕ) → Option (Result (List Log) BaselineFault) → Type 0
IsReadIfAsked dir logs = is_some logs ≡ is_some dir
