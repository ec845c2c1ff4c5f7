use Rattle.redo_timeline.proofs.LawLemmas.{in_turn}
use Rattle.redo_timeline.proofs.laws.bars_do_not_overlap.Goals as goal

pub returns : goal.returns
returns c = in_turn
