use Rattle.redo_timeline.proofs.AloneLemmas.{is_bounded}
use Rattle.redo_timeline.proofs.laws.times_alone_are_bounded.Goals as goal

pub returns : goal.returns
returns c = is_bounded
