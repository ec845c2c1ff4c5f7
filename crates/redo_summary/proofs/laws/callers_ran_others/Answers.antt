use Rattle.redo_summary.proofs.LawLemmas.{all_callers_ran, no_recipe_ran}
use Rattle.redo_summary.proofs.laws.callers_ran_others.Goals as goal

pub returns-clause-callers : goal.returns-clause-callers
returns-clause-callers c = all_callers_ran

pub returns-clause-recipes : goal.returns-clause-recipes
returns-clause-recipes c = no_recipe_ran
