use Rattle.redo_timeline.proofs.MostLemmas.{is_reached}
use Rattle.redo_timeline.proofs.laws.most_spans_run.Goals as goal

pub returns : goal.returns
returns c = is_reached
