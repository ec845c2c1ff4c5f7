use Rattle.redo_compare.proofs.KindLemmas.{few-new, none-new}
use Rattle.redo_compare.proofs.laws.when_nothing_is_new.Goals as goal

pub returns-clause-none : goal.returns-clause-none
returns-clause-none c = none-new

pub returns-clause-only : goal.returns-clause-only
returns-clause-only c = few-new
