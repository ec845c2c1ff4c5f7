use Rattle.redo_timeline.proofs.LawLemmas.{joined_narrow}
use Rattle.redo_timeline.proofs.laws.joined_bars_are_narrow.Goals as goal

pub returns : goal.returns
returns c = joined_narrow
