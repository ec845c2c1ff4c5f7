use Rattle.std.proofs.Common.{◌≡◌, ◌++◌, take}
use Rattle.redo_compare.specs.Baseline.{known_targets}
use Rattle.redo_compare.proofs.baseline.push_known.Given as goal

-- The names so far were appended, if they are known.
abbrev pub invariant-loop-name : goal.invariant-loop-name
invariant-loop-name l = l.names.items ≡ l.initial.names.items ++ known_targets l.table (take l.name-index l.more)
