use Rattle.redo_view.proofs.Equation.{show_log_equation, unique_solution}
use Rattle.redo_view.proofs.laws.show_log_equation.Goals as goal

pub returns-clause-holds : goal.returns-clause-holds
returns-clause-holds c = show_log_equation

pub returns-clause-unique : goal.returns-clause-unique
returns-clause-unique c = unique_solution
