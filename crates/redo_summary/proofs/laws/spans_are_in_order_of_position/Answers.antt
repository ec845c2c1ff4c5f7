use Rattle.redo_summary.proofs.LawLemmas.{are_in_order_of_position}
use Rattle.redo_summary.proofs.laws.spans_are_in_order_of_position.Goals as goal

pub returns : goal.returns
returns c = are_in_order_of_position
