use Rattle.std.proofs.Common.{◌-◌, ◌≤◌, length}
use Rattle.redo_summary.specs.Ranks.{rank_cmp}
use Rattle.redo_summary.proofs.RankLemmas.{IsInsertedFrom}
use Rattle.redo_summary.proofs.ranking.insert_rank.Given as goal

abbrev pub invariant-loop-position : goal.invariant-loop-position
invariant-loop-position l = record {
  within : l.position ≤ length l.ranks.items;
  from : IsInsertedFrom rank_cmp l.position l.rank l.ranks.items;
}

abbrev pub decreases-loop-position : goal.decreases-loop-position
decreases-loop-position l = length l.ranks.items - l.position
