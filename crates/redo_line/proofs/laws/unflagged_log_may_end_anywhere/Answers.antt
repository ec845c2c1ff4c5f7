use Rattle.redo_line.proofs.SourceLemmas.{any_fault, any_log}
use Rattle.redo_line.proofs.laws.unflagged_log_may_end_anywhere.Goals as goal

pub returns-clause-fault : goal.returns-clause-fault
returns-clause-fault c = any_fault

pub returns-clause-log : goal.returns-clause-log
returns-clause-log c = any_log
