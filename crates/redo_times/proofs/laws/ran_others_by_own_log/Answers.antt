use Rattle.redo_times.proofs.TimesLaws.{ran-none, ran-one}
use Rattle.redo_times.proofs.laws.ran_others_by_own_log.Goals as goal

pub returns-clause-ran : goal.returns-clause-ran
returns-clause-ran c = ran-one

pub returns-clause-ran_none : goal.returns-clause-ran_none
returns-clause-ran_none c = ran-none
