use Rattle.std.proofs.Common.{ap, ◌∙◌, arith}
use Rattle.redo_timeline.specs.declared.span.Span.{Span}
use Rattle.redo_summary.specs.Usage.{peak_of, used_by}
use Rattle.redo_summary.proofs.RankLemmas.{most_more}
use Rattle.redo_summary.proofs.usage.most_memory.Goals as goal

pub loop-i-preserved : goal.loop-i-preserved
loop-i-preserved c =
    most_more (λ (recipe : Span). peak_of (used_by c.args.nodes.now c.args.facts.now recipe)) c.args.recipes.now c.loop-i.i
    c.peak_of-value.result c.loop-i.ranks.items c.insert_rank.new.ranks.items c.loop-i-test.true c.loop-i.auto.i
    (c.peak_of-value.ensures ∙ ap peak_of c.used_by.ensures)
    (let some = c.if-value-eq0.false in omega (arith, some)) c.loop-i.invariant c.in_ok-insert_rank.ensures
