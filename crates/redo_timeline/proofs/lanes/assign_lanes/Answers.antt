use Rattle.std.proofs.Common.{map, ap, ◌∙◌}
use Rattle.redo_timeline.specs.Private.Placing.{lane_for}
use Rattle.redo_timeline.proofs.LaneLemmas.{no_span, positioned_next}
use Rattle.redo_timeline.proofs.lanes.assign_lanes.Goals as goal

pub loop-span-preserved : goal.loop-span-preserved
loop-span-preserved c =
    positioned_next c.args.max_lanes c.args.spans.now c.loop-span.span-index no_span (map (λ lane. lane.items) c.loop-span.lanes.items)
    (map (λ lane. lane.items) c.put_in_lane.new.lanes.items) c.loop-span.ends.items
    c.put_end.new.ends.items c.lane_for-lane.result c.loop-span-test.true c.loop-span.invariant
    (c.lane_for-lane.ensures ∙ ap (lane_for c.args.max_lanes _) c.deref.ensures.value) c.in_ok-put_in_lane.ensures c.in_ok-put_end.ensures
