use Rattle.redo_json.proofs.TextLemmas.{recovered}
use Rattle.redo_json.proofs.laws.bytes_are_recovered.Goals as goal

pub returns : goal.returns
returns c = recovered
