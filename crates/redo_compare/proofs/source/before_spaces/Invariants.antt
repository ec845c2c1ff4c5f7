use Rattle.std.proofs.Common.{◌≡◌, length}
use Rattle.redo_compare.specs.Source.{before_spaces}
use Rattle.redo_compare.proofs.source.before_spaces.Given as goal

abbrev pub invariant-spaces : goal.invariant-spaces
invariant-spaces l = before_spaces l.bytes ≡ before_spaces l.left

abbrev pub decreases-spaces : goal.decreases-spaces
decreases-spaces l = length l.left
