use Rattle.std.proofs.Common.{List, subst}
use Rattle.std.specs.List.Sorted.{IsPermutation}
use Rattle.redo_timeline.specs.declared.span.Span.{Span}
use Rattle.redo_timeline.proofs.OrderLemmas.{are_in_order}
use Rattle.redo_timeline.proofs.sorting.sorted.Goals as goal

pub returns : goal.returns
returns c =
    let ordered = c.sort_unstable.new.self.items in
    let moved = subst (λ (spans : List Span). IsPermutation spans ordered) c.in_ok-sorted.ensures.items
    c.sort_unstable.ensures.permutation in
    are_in_order c.args.spans.now ordered moved c.sort_unstable.ensures.sorted
