use Rattle.std.proofs.Common.{length}
use Rattle.redo_compare.specs.Skipping.{AreSkipped}
use Rattle.redo_compare.proofs.log.skip_others.Given as goal

abbrev pub invariant-stretches : goal.invariant-stretches
invariant-stretches l = AreSkipped l.initial.lines l.lines

abbrev pub decreases-stretches : goal.decreases-stretches
decreases-stretches l = length l.lines.left
