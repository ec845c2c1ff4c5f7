use Rattle.redo_timeline.proofs.TimelineLemmas.{Drawn}
use Rattle.redo_timeline.proofs.timeline.layout.Given as goal

abbrev pub invariant-loop-lane : goal.invariant-loop-lane
invariant-loop-lane l = Drawn (λ lane. lane.items) l.window l.lanes.items l.lane l.bars.items
