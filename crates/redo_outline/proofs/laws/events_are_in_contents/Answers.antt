use Rattle.redo_outline.proofs.ContentsLemmas.{are_in_contents}
use Rattle.redo_outline.proofs.laws.events_are_in_contents.Goals as goal

pub returns : goal.returns
returns c = are_in_contents c.logs_nest.ensures
