use Rattle.std.proofs.Common.{◌≡◌, ◌++◌, take}
use Rattle.redo_logs.specs.Logs.{targets_of}
use Rattle.redo_compare.specs.Baseline.{known_targets}
use Rattle.redo_compare.proofs.baseline.push_targets.Given as goal

-- The targets of the logs so far were appended.
abbrev pub invariant-loop-number : goal.invariant-loop-number
invariant-loop-number l = l.names.items ≡ l.initial.names.items ++ known_targets l.table (take l.number (targets_of l.table))
