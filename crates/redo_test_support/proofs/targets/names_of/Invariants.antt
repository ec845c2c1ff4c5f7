use Rattle.std.proofs.Common.{◌≡◌, take}
use Rattle.redo_logs.specs.Logs.{targets_of}
use Rattle.redo_test_support.proofs.targets.names_of.Given as goal

-- The names so far are the names of the first targets.
abbrev pub invariant-loop-number : goal.invariant-loop-number
invariant-loop-number l = l.names.items ≡ take l.number (targets_of l.table)
