use Rattle.redo_summary.proofs.RankLemmas.{longest_next}
use Rattle.redo_summary.proofs.ranking.longest_of.Goals as goal

pub loop-i-preserved : goal.loop-i-preserved
loop-i-preserved c =
    longest_next c.args.recipes.now c.loop-i.i c.duration-value.result c.loop-i.ranks.items c.insert_rank.new.ranks.items c.loop-i-test.true
    c.loop-i.auto.i c.duration-value.ensures c.loop-i.invariant c.in_ok-insert_rank.ensures
