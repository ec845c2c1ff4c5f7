use Rattle.redo_logs.proofs.LeastFault.{found_there, none_before, none_at_all}
use Rattle.redo_logs.proofs.laws.lowest_fault_is_first.Goals as goal

pub returns-clause-some : goal.returns-clause-some
returns-clause-some c = found_there

pub returns-clause-before : goal.returns-clause-before
returns-clause-before c = none_before

pub returns-clause-none : goal.returns-clause-none
returns-clause-none c = none_at_all
