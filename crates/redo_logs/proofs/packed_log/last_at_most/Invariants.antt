use Rattle.std.proofs.Common.{◌-◌, ◌≤◌, length}
use Rattle.redo_logs.proofs.packed_log.last_at_most.Given as goal

abbrev pub invariant-loop-high : goal.invariant-loop-high
invariant-loop-high l = (l.low ≤ l.high) × (l.high ≤ length l.numbers)

abbrev pub decreases-loop-high : goal.decreases-loop-high
decreases-loop-high l = l.high - l.low
