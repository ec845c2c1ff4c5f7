use Rattle.redo_command.proofs.BaselineLemmas.{baseline_has_fault, own_logs_have_text}
use Rattle.redo_command.proofs.laws.baseline_fails_last.Goals as goal

pub returns-clause-fault : goal.returns-clause-fault
returns-clause-fault c = baseline_has_fault

pub returns-clause-own : goal.returns-clause-own
returns-clause-own c = own_logs_have_text
