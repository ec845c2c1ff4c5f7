use Rattle.redo_summary.proofs.LawLemmas.{callers_are_shown, marks_are_shown, recipes_are_shown}
use Rattle.redo_summary.proofs.laws.spans_are_of_targets.Goals as goal

pub returns-clause-callers : goal.returns-clause-callers
returns-clause-callers c = callers_are_shown

pub returns-clause-recipes : goal.returns-clause-recipes
returns-clause-recipes c = recipes_are_shown

pub returns-clause-marks : goal.returns-clause-marks
returns-clause-marks c = marks_are_shown
