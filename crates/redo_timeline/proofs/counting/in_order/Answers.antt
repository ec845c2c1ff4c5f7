use Rattle.std.proofs.lemmas.List.Sorted.{IsNonDecreasingBy-from_sort}
use Rattle.redo_timeline.proofs.counting.in_order.Goals as goal

pub returns : goal.returns
returns c = (
  c.sort_unstable.ensures.permutation,
  IsNonDecreasingBy-from_sort
      (λ t. t) c.sort_unstable.new.self.items c.sort_unstable.ensures.sorted,
)
