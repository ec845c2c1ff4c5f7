use Rattle.std.proofs.Common.{◌≡◌, drop}
use Rattle.redo_summary.proofs.RankLemmas.{warned_from}
use Rattle.redo_summary.proofs.ranking.most_warned.Given as goal

abbrev pub invariant-loop-position : goal.invariant-loop-position
invariant-loop-position l = l.ranks.items ≡ warned_from l.position (drop l.position l.nodes)
