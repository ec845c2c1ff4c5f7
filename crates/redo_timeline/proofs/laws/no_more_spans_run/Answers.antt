use Rattle.redo_timeline.proofs.CountLemmas.{at_most}
use Rattle.redo_timeline.proofs.laws.no_more_spans_run.Goals as goal

pub returns : goal.returns
returns c = at_most
