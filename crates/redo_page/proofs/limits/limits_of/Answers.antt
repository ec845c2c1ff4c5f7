use Rattle.redo_page.specs.Private.Referring.{build_value}
use Rattle.redo_page.specs.Limits.{limit_if}
use Rattle.std.proofs.Common.{ap, length, ◌∙◌, arith}
use Rattle.redo_page.proofs.LimitLemmas.{next_limit}
use Rattle.redo_page.proofs.limits.limits_of.Goals as goal

pub loop-number-preserved : goal.loop-number-preserved
loop-number-preserved c =
    let build = build_value c.args.build.now in
    next_limit build c.in-Some.cap c.loop-number.number (length c.args.build.now.table.now)
    (omega (arith, c.loop-number-test.true, c.len-number-end.ensures.len)) c.loop-number.limits.items c.push.new.self.items
    c.limit_if.result
    (c.limit_if.ensures ∙ ap (limit_if build.articles build.nodes c.in-Some.cap) c.position_of.ensures)
    c.in_ok-push.ensures.items c.loop-number.invariant
