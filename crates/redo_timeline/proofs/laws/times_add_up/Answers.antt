use Rattle.redo_timeline.proofs.AloneLemmas.{add_up}
use Rattle.redo_timeline.proofs.laws.times_add_up.Goals as goal

pub returns : goal.returns
returns c = add_up
