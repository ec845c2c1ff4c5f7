use Rattle.std.proofs.Common.{ℕ, ltb, rules, arith}
use Rattle.std.proofs.lemmas.List.Sorted.{IsPartitionPoint-from_clause, IsPartitionedBy-ltb}
use Rattle.redo_timeline.proofs.SumLemmas.{position_of_point, sum_is_at}
use Rattle.redo_timeline.proofs.alone.sum_at.Goals as goal

pub bounds-sums-position : goal.bounds-sums-position
bounds-sums-position c =
    let points = c.args.points.now in
    let position = c.partition_point-position.result in
    let split = IsPartitionPoint-from_clause (λ (p : ℕ). ltb p c.args.point) points position c.partition_point-position.ensures.partitioned
    (IsPartitionedBy-ltb (λ p. p) points c.args.point c.requires.sorted) (λ a r q k. search rules) in
    let found = position_of_point points c.args.point position c.requires.sorted c.requires.contained split.0 split.1 in
    let below = found.0 in
    let same = c.requires.sums in
    omega (arith, below, same)

pub returns : goal.returns
returns c =
    let points = c.args.points.now in
    let position = c.partition_point-position.result in
    let split = IsPartitionPoint-from_clause (λ (p : ℕ). ltb p c.args.point) points position c.partition_point-position.ensures.partitioned
    (IsPartitionedBy-ltb (λ p. p) points c.args.point c.requires.sorted) (λ a r q k. search rules) in
    let found = position_of_point points c.args.point position c.requires.sorted c.requires.contained split.0 split.1 in
    λ f are. sum_is_at f points c.args.sums.now c.args.point position are found.0 found.1
