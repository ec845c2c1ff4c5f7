use Rattle.redo_view.proofs.NestingLemmas.{are_nested}
use Rattle.redo_view.proofs.laws.logs_nest.Goals as goal

pub returns : goal.returns
returns c = are_nested
