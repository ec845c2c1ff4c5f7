use Rattle.redo_trim.proofs.LawLemmas.{are_whole}
use Rattle.redo_trim.proofs.laws.unlimited_logs_are_whole.Goals as goal

pub returns : goal.returns
returns c = are_whole
