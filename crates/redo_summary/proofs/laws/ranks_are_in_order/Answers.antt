use Rattle.std.proofs.Common.{filter, ltb, map}
use Rattle.redo_summary.specs.declared.rank.Rank.{Rank}
use Rattle.redo_summary.specs.Ranks.{alone_ranks, rank_of, warnings_from}
use Rattle.redo_summary.specs.Spans.{recipes_of, targets_of}
use Rattle.redo_summary.specs.Usage.{memory_ranks}
use Rattle.redo_summary.proofs.RankLemmas.{first_are_table}
use Rattle.redo_summary.proofs.laws.ranks_are_in_order.Goals as goal

pub returns-clause-longest : goal.returns-clause-longest
returns-clause-longest c = λ nodes times. first_are_table (map rank_of (recipes_of (targets_of nodes times)))

pub returns-clause-warned : goal.returns-clause-warned
returns-clause-warned c = λ nodes times. first_are_table (filter (λ (rank : Rank). ltb 0 rank.value) (warnings_from 0 nodes))

pub returns-clause-memory : goal.returns-clause-memory
returns-clause-memory c = λ nodes facts recipes. first_are_table (memory_ranks nodes facts recipes)

pub returns-clause-alone : goal.returns-clause-alone
returns-clause-alone c = λ nodes times. first_are_table (alone_ranks (recipes_of (targets_of nodes times)))
