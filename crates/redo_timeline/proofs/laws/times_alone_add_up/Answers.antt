use Rattle.redo_timeline.proofs.AloneLemmas.{alone_add_up}
use Rattle.redo_timeline.proofs.laws.times_alone_add_up.Goals as goal

pub returns : goal.returns
returns c = alone_add_up
