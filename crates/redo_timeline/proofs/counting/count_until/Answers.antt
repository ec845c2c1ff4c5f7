use Rattle.std.proofs.Common.{rules, ℕ, leb, sym, ◌∙◌}
use Rattle.std.proofs.lemmas.List.Sorted.{IsPartitionPoint-from_clause, IsPartitionedBy-leb}
use Rattle.redo_timeline.proofs.CountLemmas.{count_by_is, count_until_position}
use Rattle.redo_timeline.proofs.counting.count_until.Goals as goal

pub returns : goal.returns
returns c =
    let times = c.args.times.now in
    let position = c.partition_point.result in
    let test = λ (t : ℕ). leb t c.args.time in
    let split = IsPartitionPoint-from_clause test times position c.partition_point.ensures.partitioned
    (IsPartitionedBy-leb (λ t. t) times c.args.time c.requires) (λ a r q k. search rules) in
    sym (count_until_position test times position c.partition_point.ensures.bound split.0 split.1) ∙ count_by_is test times
