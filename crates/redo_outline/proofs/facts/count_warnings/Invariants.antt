use Rattle.std.proofs.Common.{length}
use Rattle.redo_outline.proofs.WarningLemmas.{Counts}
use Rattle.redo_outline.proofs.facts.count_warnings.Given as goal

abbrev pub invariant-warnings : goal.invariant-warnings
invariant-warnings l = Counts l.lines l.left l.count

abbrev pub decreases-warnings : goal.decreases-warnings
decreases-warnings l = length l.left
