use Rattle.redo_compare.proofs.PartLemmas.{new-part}
use Rattle.redo_compare.proofs.laws.new_are_in_order.Goals as goal

pub returns : goal.returns
returns c = new-part
