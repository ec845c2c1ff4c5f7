use Rattle.redo_compare.proofs.KindLemmas.{all-new}
use Rattle.redo_compare.proofs.laws.targets_of_one_build.Goals as goal

pub returns-clause-only_now : goal.returns-clause-only_now
returns-clause-only_now c = all-new
