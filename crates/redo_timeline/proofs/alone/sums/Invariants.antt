use Rattle.redo_timeline.proofs.SumLemmas.{SumsBefore}
use Rattle.redo_timeline.proofs.alone.sums.Given as goal

abbrev pub invariant-loop-point : goal.invariant-loop-point
invariant-loop-point l = SumsBefore l.spans l.points l.point-index l.sums.items l.sum l.last
