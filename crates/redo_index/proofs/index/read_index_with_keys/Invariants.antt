use Rattle.std.proofs.Common.{length}
use Rattle.redo_index.proofs.IndexLines.{SoFar}
use Rattle.redo_index.proofs.index.read_index_with_keys.Given as goal

abbrev pub invariant-lines : goal.invariant-lines
invariant-lines l = SoFar l.bytes l.left l.numbers.keys l.targets.entries

abbrev pub decreases-lines : goal.decreases-lines
decreases-lines l = length l.left
