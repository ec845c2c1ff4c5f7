use Rattle.redo_timeline.proofs.LawLemmas.{failed_alone}
use Rattle.redo_timeline.proofs.laws.failed_spans_are_alone.Goals as goal

pub returns : goal.returns
returns c = failed_alone
