use Rattle.redo_units.proofs.DateLemmas.{date_of_second, parts_are}
use Rattle.redo_units.proofs.laws.each_second_has_its_date.Goals as goal

pub returns-clause-exists : goal.returns-clause-exists
returns-clause-exists c = date_of_second

pub returns-clause-only : goal.returns-clause-only
returns-clause-only c = parts_are
