-- The chart of the timeline of a build.
use Rattle.std.specs.Prelude.{ℕ, ◌-◌, List, [], ◌∷◌}
use Rattle.redo_html.specs.Chart.{Drawing}
use Rattle.redo_logs.specs.Logs.{Log}
use Rattle.redo_outline.specs.declared.node.Node.{Node}
use Rattle.redo_timeline.specs.declared.span.Span.{Span}
use Rattle.redo_timeline.specs.declared.span.Window.{Window}
use Rattle.redo_timeline.specs.Timeline.{timeline_of}
use Rattle.redo_timeline.specs.Timeline.{Drawing as Timeline}
use Rattle.redo_chart.specs.Axis.{axis_layer}
use Rattle.redo_chart.specs.Bands.{below, marks_band, max_mark_lanes, max_caller_lanes, max_recipe_lanes, callers_band, recipes_band}
use Rattle.redo_chart.specs.Bars.{bar_layer}

-- The height of the chart, by the number of lanes of each group. The lines of the axis end 4 pixels above its end.
abbrev pub height_of : ℕ → ℕ → ℕ → ℕ
height_of caller_lanes recipe_lanes mark_lanes = below (marks_band caller_lanes recipe_lanes) mark_lanes

-- The chart of three timelines: of recipes that ran others, of other recipes, and of recipes with one unknown time.
abbrev pub drawing_of : List Log → List Node → ℕ → Timeline → Timeline → Timeline → Drawing
drawing_of logs nodes width callers recipes marks =
    let height = height_of callers.lane_count recipes.lane_count marks.lane_count in record {
      height = height;
      lanes = recipes.lane_count;
      layers =
          axis_layer (height - 4) width
          ∷ bar_layer logs nodes callers_band callers.bars
          ∷ bar_layer logs nodes (recipes_band callers.lane_count recipes.lane_count) recipes.bars
          ∷ bar_layer logs nodes (marks_band callers.lane_count recipes.lane_count) marks.bars
          ∷ [];
    }

abbrev pub timeline_drawing : List Log → List Node → Window → List Span → List Span → List Span → Drawing
timeline_drawing logs nodes window callers recipes marks =
    drawing_of logs nodes window.width (timeline_of window max_caller_lanes callers) (timeline_of window max_recipe_lanes recipes)
    (timeline_of window max_mark_lanes marks)
