use Rattle.redo_page.proofs.LimitLemmas.{highest_fits, none_higher}
use Rattle.redo_page.proofs.laws.cap_is_highest.Goals as goal

pub returns-clause-fits : goal.returns-clause-fits
returns-clause-fits c = highest_fits

pub returns-clause-highest : goal.returns-clause-highest
returns-clause-highest c = λ budget cap nodes above within. none_higher budget nodes cap above within
