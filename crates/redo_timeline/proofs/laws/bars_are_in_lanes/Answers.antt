use Rattle.redo_timeline.proofs.LawLemmas.{in_lanes}
use Rattle.redo_timeline.proofs.laws.bars_are_in_lanes.Goals as goal

pub returns : goal.returns
returns c = in_lanes
