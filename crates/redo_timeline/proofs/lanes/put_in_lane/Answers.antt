use Rattle.std.proofs.Common.{◌∷◌, [], ◌++◌, ap, ◌∙◌, arith, map}
use Rattle.redo_timeline.proofs.LaneLemmas.{put_at, put_last}
use Rattle.redo_timeline.proofs.lanes.put_in_lane.Goals as goal

pub returns-in_ok-push : goal.returns-in_ok-push
returns-in_ok-push c =
    let lanes = c.args.lanes.now in
    put_at (λ spans. spans.items) c.args.lane c.args.span lanes.items c.index_mut.result.now c.push.new.self
    (omega (arith, lanes.ok)) c.index_mut.ensures.value c.in_ok-push.ensures.items

pub returns-in_ok-push-3 : goal.returns-in_ok-push-3
returns-in_ok-push-3 c =
    let lanes = c.args.lanes.now in
    ap (map (λ spans. spans.items)) c.in_ok-push-3.ensures.items
    ∙ put_last (λ spans. spans.items) c.args.lane c.args.span lanes.items c.push-else-lane-len.new.self (omega (arith, lanes.ok))
    (c.in_ok-push-2.ensures.items ∙ ap (λ spans. spans ++ c.args.span ∷ []) c.new-spans.ensures.items)
