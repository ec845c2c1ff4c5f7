use Rattle.std.proofs.Common.{List, ℕ, ◌++◌, ap, ◌∙◌, subst}
use Rattle.redo_timeline.specs.Private.Counting.{AreSortedTimes, begins_of}
use Rattle.redo_timeline.proofs.alone.points.Goals as goal

pub returns : goal.returns
returns c =
    subst (λ (times : List ℕ). AreSortedTimes times c.in_order.result.items)
    (c.in_ok-extend_from_slice.ensures.items ∙ ap (λ (times : List ℕ). times ++ c.deref.result.now) c.in_ok-points.ensures
    ∙ ap (λ (times : List ℕ). begins_of c.args.spans.now ++ times) (c.deref.ensures.value ∙ c.in_ok-ends.ensures))
    c.in_order.ensures
