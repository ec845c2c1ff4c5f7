use Rattle.std.proofs.Common.{◌≡◌, take}
use Rattle.redo_index.specs.Index.{listed_targets}
use Rattle.redo_index.proofs.index.Index.names.Given as goal

-- `names` holds the names of the first `i` targets.
abbrev pub invariant-loop-i : goal.invariant-loop-i
invariant-loop-i l = l.names.items ≡ take l.i (listed_targets l.self)
