use Rattle.std.proofs.Common.{◌-◌, ◌≤◌, length}
use Rattle.redo_logs.specs.Private.PackedLog.{IsBefore}
use Rattle.redo_logs.proofs.packed_log.find_from.Given as goal

-- The entry isn't in a `Record` before `at`.
abbrev pub invariant-records : goal.invariant-records
invariant-records l = IsBefore l.records l.at l.before × (l.before ≤ l.number)

abbrev pub decreases-records : goal.decreases-records
decreases-records l = length l.records - l.at
