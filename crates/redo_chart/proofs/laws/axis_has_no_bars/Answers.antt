use Rattle.std.proofs.Common.{◌-◌, ◌+◌, refl}
use Rattle.std.specs.List.{range_with_len}
use Rattle.redo_timeline.specs.Timeline.{timeline_of}
use Rattle.redo_units.specs.Ticks.{tick_step_of}
use Rattle.redo_chart.specs.Axis.{last_tick}
use Rattle.redo_chart.specs.Bands.{max_mark_lanes, max_caller_lanes, max_recipe_lanes}
use Rattle.redo_chart.specs.Timeline.{height_of}
use Rattle.redo_chart.proofs.RowLemmas.{no_bars}
use Rattle.redo_chart.proofs.laws.axis_has_no_bars.Goals as goal

pub returns-clause-layers : goal.returns-clause-layers
returns-clause-layers c = λ logs nodes window callers recipes marks. refl

pub returns-clause-axis : goal.returns-clause-axis
returns-clause-axis c = λ logs nodes window callers recipes marks.
    let first = timeline_of window max_caller_lanes callers in
    let second = timeline_of window max_recipe_lanes recipes in
    let third = timeline_of window max_mark_lanes marks in
    no_bars (height_of first.lane_count second.lane_count third.lane_count - 4) window.width (tick_step_of window.width)
    (range_with_len 0 (last_tick window.width + 1))
