use Rattle.std.proofs.Common.{arith}
use Rattle.redo_summary.proofs.RankLemmas.{warned_next_down}
use Rattle.redo_summary.proofs.ranking.most_warned.Goals as goal

pub loop-position-preserved : goal.loop-position-preserved
loop-position-preserved c =
    warned_next_down c.args.nodes.now c.loop-position.position c.loop-position.ranks.items c.insert_rank.new.ranks.items
    c.loop-position-test.true c.loop-position.auto.position
    (let some = c.if-value-eq0.false in omega (arith, some)) c.loop-position.invariant c.in_ok-insert_rank.ensures
