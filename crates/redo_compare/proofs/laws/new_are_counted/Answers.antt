use Rattle.redo_compare.proofs.KindLemmas.{new-count}
use Rattle.redo_compare.proofs.laws.new_are_counted.Goals as goal

pub returns : goal.returns
returns c = new-count
