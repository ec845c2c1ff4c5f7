use Rattle.redo_timeline.proofs.LaneLemmas.{NoneBefore}
use Rattle.redo_timeline.proofs.lanes.lane_for.Given as goal

abbrev pub invariant-loop-lane : goal.invariant-loop-lane
invariant-loop-lane l = NoneBefore l.max_lanes l.began l.lane l.ends
