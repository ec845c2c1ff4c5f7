use Rattle.redo_timeline.proofs.AloneLemmas.{without_others}
use Rattle.redo_timeline.proofs.laws.no_other_span_runs.Goals as goal

pub returns : goal.returns
returns c = without_others
