use Rattle.std.proofs.Common.{drop, map}
use Rattle.redo_timeline.proofs.LaneLemmas.{Positioned}
use Rattle.redo_timeline.proofs.lanes.assign_lanes.Given as goal

abbrev pub invariant-loop-span : goal.invariant-loop-span
invariant-loop-span l = Positioned l.max_lanes l.spans (drop l.span-index l.spans) (map (λ lane. lane.items) l.lanes.items) l.ends.items
