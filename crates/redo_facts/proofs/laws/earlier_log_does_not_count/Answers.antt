use Rattle.redo_facts.proofs.LawProofs.{begun}
use Rattle.redo_facts.proofs.laws.earlier_log_does_not_count.Goals as goal

pub returns : goal.returns
returns c = begun
