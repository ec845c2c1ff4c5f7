use Rattle.std.proofs.Common.{sym, ◌∙◌, arith}
use Rattle.redo_timeline.proofs.LaneLemmas.{end_is_new, end_is_set, end_stays}
use Rattle.redo_timeline.proofs.lanes.put_end.Goals as goal

pub returns-then-index-ended : goal.returns-then-index-ended
returns-then-index-ended c =
    let ends = c.args.ends.now in
    sym (end_is_set c.args.lane c.args.ended ends.items c.index.result.now (omega (arith, ends.ok)) c.index.ensures c.if-index-ended.true)

pub returns-else-index-ended : goal.returns-else-index-ended
returns-else-index-ended c =
    let ends = c.args.ends.now in
    sym (end_stays c.args.lane c.args.ended ends.items c.index.result.now (omega (arith, ends.ok)) c.index.ensures c.if-index-ended.false)

pub returns-in_ok-push : goal.returns-in_ok-push
returns-in_ok-push c =
    let ends = c.args.ends.now in
    c.in_ok-push.ensures.items ∙ sym (end_is_new c.args.lane c.args.ended ends.items (omega (arith, ends.ok)))
