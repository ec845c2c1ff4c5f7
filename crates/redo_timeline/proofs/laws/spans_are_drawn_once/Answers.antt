use Rattle.redo_timeline.proofs.LawLemmas.{drawn_once}
use Rattle.redo_timeline.proofs.laws.spans_are_drawn_once.Goals as goal

pub returns : goal.returns
returns c = drawn_once
