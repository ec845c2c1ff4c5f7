use Rattle.redo_gather.proofs.StreamLemmas.{logs_or_fault}
use Rattle.redo_gather.proofs.laws.logs_unless_fault.Goals as goal

pub returns : goal.returns
returns c = logs_or_fault
