use Rattle.std.proofs.Common.{◌≡◌, length}
use Rattle.redo_compare.specs.Source.{after_those, is_space}
use Rattle.redo_compare.proofs.source.after_spaces.Given as goal

abbrev pub invariant-spaces : goal.invariant-spaces
invariant-spaces l = after_those is_space l.bytes ≡ after_those is_space l.left

abbrev pub decreases-spaces : goal.decreases-spaces
decreases-spaces l = length l.left
