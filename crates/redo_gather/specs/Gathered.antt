-- The results of a gathering.
use Rattle.std.specs.Prelude.{◌≡◌, ℕ, ◌<◌, true, List, Result, IfOk, length}
use Rattle.std.specs.List.{list_all}
use Rattle.redo_logs.specs.Logs.{Log, has_ended, targets_of}
use Rattle.redo_gather.specs.declared.gather_fault.GatherFault.{GatherFault}
use Rattle.redo_gather.specs.GatherFault.{IfStreamFault}
use Rattle.redo_gather.specs.Streams.{AreLogsOfReaders, IsLowestFault, KnownInput}

-- The logs of the targets of these names, or the fault of a stream, or `OutOfMemory`.
pub record IsGathered (max_bytes : ℕ) (names : List (List ℕ)) (inputs : List KnownInput) (result : Result (List Log) GatherFault) : Type 0 where
  -- The logs of the streams, in the order of the names, all of them complete.
  pub logs : IfOk result (AreLogsOfReaders max_bytes names inputs)
  pub targets : IfOk result (λ table. targets_of table ≡ names)
  pub ended : IfOk result (λ table. list_all has_ended table ≡ true)
  -- The fault of the lowest-numbered stream that has one.
  pub fault : IfStreamFault result (IsLowestFault max_bytes names inputs)
  pub number : IfStreamFault result (λ number fault. number < length names)
