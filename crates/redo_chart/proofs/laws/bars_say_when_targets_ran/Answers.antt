use Rattle.redo_timeline.specs.Timeline.{timeline_of}
use Rattle.redo_chart.specs.Bands.{marks_band, max_mark_lanes, max_caller_lanes, max_recipe_lanes, callers_band, recipes_band}
use Rattle.redo_chart.proofs.LawLemmas.{group_drawn}
use Rattle.redo_chart.proofs.laws.bars_say_when_targets_ran.Goals as goal

pub returns-clause-callers : goal.returns-clause-callers
returns-clause-callers c = λ logs nodes window callers recipes marks. group_drawn logs nodes window callers_band max_caller_lanes callers

pub returns-clause-recipes : goal.returns-clause-recipes
returns-clause-recipes c = λ logs nodes window callers recipes marks.
    group_drawn logs nodes window (recipes_band ((timeline_of window max_caller_lanes callers).lane_count)
    ((timeline_of window max_recipe_lanes recipes).lane_count)) max_recipe_lanes recipes

pub returns-clause-marks : goal.returns-clause-marks
returns-clause-marks c = λ logs nodes window callers recipes marks.
    group_drawn logs nodes window (marks_band ((timeline_of window max_caller_lanes callers).lane_count)
    ((timeline_of window max_recipe_lanes recipes).lane_count)) max_mark_lanes marks
