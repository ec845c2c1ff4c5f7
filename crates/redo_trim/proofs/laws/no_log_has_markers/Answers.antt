use Rattle.redo_trim.proofs.MarkerLemmas.{in_no_log}
use Rattle.redo_trim.proofs.laws.no_log_has_markers.Goals as goal

pub returns : goal.returns
returns c = in_no_log
