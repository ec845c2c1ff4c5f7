use Rattle.redo_new.proofs.LawLemmas.{failing_are, fixed_are, new_are}
use Rattle.redo_new.proofs.laws.lines_are_told_apart.Goals as goal

pub returns-clause-failing : goal.returns-clause-failing
returns-clause-failing c = failing_are

pub returns-clause-new : goal.returns-clause-new
returns-clause-new c = new_are

pub returns-clause-fixed : goal.returns-clause-fixed
returns-clause-fixed c = fixed_are
