-- Rows of many lanes, of long names, and of large statuses.
use Rattle.std.proofs.Common.{◌≡◌, ℕ, ◌+◌, ◌*◌, false, List, [], ◌∷◌, ◌++◌, None, Some, pos, negsuc, length, map, replicate, refl}
use Rattle.std.specs.Prelude.{codes, drop}
use Rattle.std.specs.Fmt.{digits}
use Rattle.redo_html.specs.declared.chart.Anchor.TheVariants.{Start, Middle, End}
use Rattle.redo_html.specs.declared.chart.GroupKind.TheVariants.{Callers, Recipes, Untimed}
use Rattle.redo_html.specs.Chart.Shape.{LineShape, TickShape}
use Rattle.redo_logs.specs.declared.log_state.LogState.TheVariants.{Ended}
use Rattle.redo_logs.specs.Logs.{Log}
use Rattle.redo_outline.proofs.Nodes.{no_node}
use Rattle.redo_outline.specs.declared.node.Node.{Node}
use Rattle.redo_timeline.specs.declared.bar.Bar.{Bar}
use Rattle.redo_timeline.specs.declared.span.Span.{Span}
use Rattle.redo_timeline.specs.declared.span.Window.{Window}
use Rattle.redo_units.specs.Durations.{duration_words}
use Rattle.redo_units.specs.Ticks.{tick_step_of, tick_words}
use Rattle.redo_units.specs.Words.{decimal_text}
use Rattle.redo_chart.specs.Axis.{anchor_of, axis_shapes}
use Rattle.redo_chart.specs.Bands.{below, callers_band, marks_band, max_caller_lanes, max_recipe_lanes, recipe_lane_height, recipes_band}
use Rattle.redo_chart.specs.Bars.{drawn_bar, label_of}
use Rattle.redo_chart.specs.Targets.{last_part, name_at, status_at}
use Rattle.redo_chart.specs.Timeline.{timeline_drawing}
use Rattle.redo_chart.specs.Titles.{status_text, title_of}

-- ---- lanes

most_lanes : (max_caller_lanes ≡ 24) × (max_recipe_lanes ≡ 96)
most_lanes = (refl, refl)

heights : map recipe_lane_height (1 ∷ 16 ∷ 17 ∷ 39 ∷ 40 ∷ 41 ∷ 42 ∷ 95 ∷ 96 ∷ []) ≡ 18 ∷ 18 ∷ 12 ∷ 12 ∷ 12 ∷ 8 ∷ 8 ∷ 8 ∷ 8 ∷ []
heights = refl

-- 6 pixels are between two groups, however many lanes the first one has.
gaps : (lanes : ℕ) → below callers_band lanes ≡ 6 + 20 + callers_band.lane_height * lanes
gaps lanes = refl

some_gaps : map (below (recipes_band 0 96)) (0 ∷ 90 ∷ 91 ∷ 96 ∷ []) ≡ 32 ∷ 752 ∷ 760 ∷ 800 ∷ []
some_gaps = refl

anchors : map (anchor_of 3) (0 ∷ 5000 ∷ 9699 ∷ 9700 ∷ 9701 ∷ 10000 ∷ []) ≡ Middle ∷ Middle ∷ Middle ∷ Middle ∷ End ∷ End ∷ []
anchors = refl

first_anchor : anchor_of 0 9701 ≡ Start
first_anchor = refl

-- Without lanes, a band has no height.
no_lanes : map (λ lanes. (marks_band 0 lanes).top) (0 ∷ 1 ∷ 2 ∷ []) ≡ 32 ∷ 50 ∷ 68 ∷ []
no_lanes = refl

-- ---- the axis

-- An axis of ten steps has eleven ticks, with the last one at its end, and an axis of a step and a half has two.
ticks :
    (length (axis_shapes 7 10) ≡ 22) × (drop 20 (axis_shapes 7 10) ≡ LineShape 10000 7 ∷ TickShape 10000 End (codes "0.010 s") ∷ [])
    × (length (axis_shapes 7 100000) ≡ 22) × (drop 20 (axis_shapes 7 100000) ≡ LineShape 10000 7 ∷ TickShape 10000 End (codes "1:40") ∷ [])
    × (length (axis_shapes 7 864000000) ≡ 22)
    × (axis_shapes 7 2 ≡ LineShape 0 7 ∷ TickShape 0 Start (codes "0") ∷ LineShape 5000 7 ∷ TickShape 5000 Middle (codes "0.001 s")
    ∷ LineShape 10000 7 ∷ TickShape 10000 End (codes "0.002 s") ∷ [])
unfolding tick_step_of tick_words decimal_text digits
ticks = (refl, refl, refl, refl, refl, refl)

-- ---- names

abbrev long : List ℕ → List ℕ
long end = replicate 499 97 ++ end

-- The last part of a long path is whole.
long_parts : (last_part (codes "src/" ++ long (codes "x")) ≡ Some (long (codes "x"))) × (last_part (long (codes "/x")) ≡ Some (codes "x"))
long_parts = (refl, refl)

-- The label of a bar that is wide enough is whole, too.
abbrev labelled : Bar
labelled = record { lane = 0; x = 0; width = 350; position = 0; count = 1; began = 0; ended = 1; failed = false }

long_label : label_of (long (codes "x")) 18 labelled ≡ Some (long (codes "x"))
long_label = refl

-- Only a slash ends a directory.
other_parts : map last_part (codes "d/a:b" ∷ codes "d/a\\b" ∷ codes "d/a b" ∷ codes "d/." ∷ codes "/" ∷ [])
    ≡ Some (codes "a:b") ∷ Some (codes "a\\b") ∷ Some (codes "a b") ∷ Some (codes ".") ∷ None ∷ []
other_parts = refl

abbrev logs : List Log
logs = record { target = long (codes "x"); entries = []; state = Ended } ∷ []

abbrev nodes : List Node
nodes = record no_node { number = 0; status = Some (pos 2) } ∷ []

abbrev bar : ℕ → Bar
bar count =
    record { lane = 0; x = 0; width = 10; position = 0; count = count; began = 1600000000000; ended = 1600604800000; failed = false }

-- The target at the position 5000 has its own name and status.
abbrev many_nodes : List Node
many_nodes = replicate 5000 (record no_node { number = 7; status = Some (pos 0) }) ++ nodes

late_target : (name_at logs many_nodes 5000 ≡ long (codes "x")) × (status_at many_nodes 5000 ≡ Some (pos 2))
    × (name_at logs many_nodes 4999 ≡ [])
late_target = (refl, refl, refl)

-- A tooltip has the whole name, a build of a week, and more than a thousand targets.
long_titles :
    (title_of logs nodes Recipes (bar 1) ≡ long (codes "x, 168 h 00 min, exit 2"))
    × (title_of logs nodes Untimed (bar 1) ≡ long (codes "x, exit 2"))
    × (title_of logs nodes Recipes (bar 12345) ≡ codes "12345 targets in 168 h 00 min, from " ++ long (codes "x"))
unfolding duration_words decimal_text digits
long_titles = (refl, refl, refl)

abbrev short_logs : List Log
short_logs = record { target = codes "x"; entries = []; state = Ended } ∷ []

-- A recipe that ran others, and 257 targets.
titles_of_week :
    (title_of short_logs nodes Callers (bar 1) ≡ codes "x, 168 h 00 min, exit 2")
    × (title_of short_logs nodes Recipes (bar 257) ≡ codes "257 targets in 168 h 00 min, from x")
unfolding duration_words decimal_text digits
titles_of_week = (refl, refl)

-- ---- statuses

statuses : map status_text (None ∷ Some (pos 0) ∷ Some (pos 6) ∷ Some (pos 130) ∷ Some (pos 256) ∷ Some (pos 2147483647)
    ∷ Some (pos 4294967298) ∷ Some (negsuc 4) ∷ Some (negsuc 2147483647) ∷ [])
    ≡ codes ", unfinished" ∷ [] ∷ codes ", exit 6" ∷ codes ", exit 130" ∷ codes ", exit 256" ∷ codes ", exit 2147483647"
    ∷ codes ", exit 4294967298" ∷ codes ", exit -5" ∷ codes ", exit -2147483648" ∷ []
unfolding decimal_text digits
statuses = refl

-- ---- charts

-- A bar in the last of 96 lanes, of a target whose name and status are unknown.
late_bar :
    drawn_bar logs nodes (recipes_band 1 96)
    (record { lane = 95; x = 9990; width = 10; position = 12345; count = 1; began = 1000; ended = 2500; failed = false })
    ≡ record {
      target = 12345;
      x = 9990;
      y = 800;
      width = 10;
      height = 6;
      failed = false;
      title = codes ", 1.50 s, unfinished";
      label = None;
    }
unfolding duration_words decimal_text digits
late_bar = refl

abbrev span : ℕ → Span
span position = record { began = 1000; position = position; ended = 2000; failed = false }

abbrev wide : Window
wide = record { began = 1000; width = 10000 }

-- A screen reader says the number of lanes of the recipes that ran no others.
lanes_said : map (λ recipes. (timeline_drawing logs nodes wide (span 0 ∷ span 1 ∷ []) recipes (span 4 ∷ [])).lanes)
    ([] ∷ (span 2 ∷ []) ∷ (span 2 ∷ span 3 ∷ span 5 ∷ []) ∷ []) ≡ 0 ∷ 1 ∷ 3 ∷ []
lanes_said = refl
