use Rattle.redo_timeline.proofs.OrderLemmas.{in_order-permutation, in_order-sorted}
use Rattle.redo_timeline.proofs.laws.spans_are_ordered.Goals as goal

pub returns : goal.returns
returns c = λ spans. (in_order-permutation spans, in_order-sorted spans)
