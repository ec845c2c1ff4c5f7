use Rattle.redo_timeline.proofs.NeedLemmas.{lanes_needed}
use Rattle.redo_timeline.proofs.laws.lanes_are_needed.Goals as goal

pub returns : goal.returns
returns c = lanes_needed
