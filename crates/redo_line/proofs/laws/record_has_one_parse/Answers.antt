use Rattle.redo_line.proofs.RecordLemmas.{one_reading}
use Rattle.redo_line.proofs.laws.record_has_one_parse.Goals as goal

pub returns : goal.returns
returns c = one_reading
