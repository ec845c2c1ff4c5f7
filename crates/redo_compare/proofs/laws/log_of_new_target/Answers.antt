use Rattle.redo_compare.proofs.LogChangeLemmas.{none-before}
use Rattle.redo_compare.proofs.laws.log_of_new_target.Goals as goal

pub returns-clause-new : goal.returns-clause-new
returns-clause-new c = λ earlier logs number none. (none-before earlier logs number none).0

pub returns-clause-gone : goal.returns-clause-gone
returns-clause-gone c = λ earlier logs number none. (none-before earlier logs number none).1
