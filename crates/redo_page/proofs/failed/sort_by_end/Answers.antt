use Rattle.std.proofs.Common.{◌≡◌, rules}
use Rattle.std.specs.Ordering.{is_lt}
use Rattle.std.proofs.lemmas.Fn.{always_returns_same}
use Rattle.std.proofs.lemmas.List.Sorted.{ranks_by}
use Rattle.redo_page.specs.Tree.{failure_cmp}
use Rattle.redo_page.proofs.FailedOrder.{are_sorted, failure_cmp_total}
use Rattle.redo_page.proofs.failed.sort_by_end.Goals as goal

pub returns : goal.returns
returns c =
    let nodes = c.args.nodes.now in
    are_sorted nodes c.args.positions.now.items c.sort_unstable_by.new.self.items c.sort_unstable_by.ensures.permutation
    (c.sort_unstable_by.ensures.sorted (λ position other. is_lt (failure_cmp nodes position other))
    (ranks_by (failure_cmp_total nodes) (λ position. position))
    (always_returns_same _ (λ a r. is_lt r ≡ is_lt (failure_cmp nodes a.0.now a.1.0.now)) _ (λ a r f k. search rules)))
