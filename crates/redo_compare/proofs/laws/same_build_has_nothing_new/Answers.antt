use Rattle.redo_compare.proofs.LogChangeLemmas.{same-build}
use Rattle.redo_compare.proofs.laws.same_build_has_nothing_new.Goals as goal

pub returns-clause-new : goal.returns-clause-new
returns-clause-new c = λ logs number table. (same-build logs table number).0

pub returns-clause-gone : goal.returns-clause-gone
returns-clause-gone c = λ logs number table. (same-build logs table number).1
