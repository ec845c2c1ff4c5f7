use Rattle.redo_line.proofs.LeastFaultLemmas.{least_line, only_least, no_line}
use Rattle.redo_line.proofs.laws.first_faulty_line.Goals as goal

pub returns-clause-some : goal.returns-clause-some
returns-clause-some c = least_line

pub returns-clause-only : goal.returns-clause-only
returns-clause-only c = only_least

pub returns-clause-none : goal.returns-clause-none
returns-clause-none c = no_line
