-- Rows of the charts of timelines, and of their parts. The values are worked out by hand.
use Rattle.std.proofs.Common.{◌≡◌, ◌<◌, ℕ, zero, suc, Bool, true, false, List, [], ◌∷◌, ◌++◌, length, map, Option, None, Some, ℤ, pos, negsuc, refl, ap, subst, arith}
use Rattle.std.proofs.lemmas.List.{append-nil}
use Rattle.std.proofs.lemmas.List.Sorted.{All-permutation, IsPermutation-sym, length_permutation}
use Rattle.std.specs.List.{All, AllByRecursion, AllZip, flat_map}
use Rattle.std.specs.List.Sorted.{IsPermutation}
use Rattle.std.specs.Fmt.{digits}
use Rattle.std.specs.Prelude.{codes, slice_index_or}
use Rattle.redo_html.specs.declared.chart.Anchor.TheVariants.{Start, Middle, End}
use Rattle.redo_html.specs.declared.chart.GroupKind.TheVariants.{Axis, Callers, Recipes, Untimed}
use Rattle.redo_html.specs.declared.chart.GroupKind.{GroupKind}
use Rattle.redo_html.specs.Chart.{DrawnBar, Drawing, Layer, Shape, drawing_links}
use Rattle.redo_html.specs.Chart.Shape.{BarShape, LineShape, TickShape}
use Rattle.redo_logs.specs.declared.log_state.LogState.TheVariants.{Ended}
use Rattle.redo_logs.specs.Logs.{Log}
use Rattle.redo_outline.specs.declared.node.Node.{Node}
use Rattle.redo_outline.proofs.Nodes.{no_node}
use Rattle.redo_timeline.specs.declared.bar.Bar.{Bar}
use Rattle.redo_timeline.specs.declared.span.Span.{Span}
use Rattle.redo_timeline.specs.declared.span.Window.{Window}
use Rattle.redo_units.specs.Durations.{duration_words}
use Rattle.redo_units.specs.Ticks.{tick_step_of, tick_words}
use Rattle.redo_units.specs.Words.{decimal_text}
use Rattle.redo_chart.specs.Axis.{anchor_of, axis_shapes}
use Rattle.redo_chart.specs.Bands.{below, marks_band, max_mark_lanes, max_caller_lanes, max_recipe_lanes, callers_band, recipe_lane_height, recipes_band}
use Rattle.redo_chart.specs.Bars.{bar_layer, drawn_bar, label_of}
use Rattle.redo_chart.specs.Laws.{Draws, DrawsAll, Includes, shapes_of}
use Rattle.redo_chart.specs.Targets.{after_last_slash, last_part, name_at, status_at}
use Rattle.redo_chart.specs.Timeline.{height_of, timeline_drawing}
use Rattle.redo_chart.specs.Titles.{duration_after, status_text, title_of}

abbrev pub log : List ℕ → Log
log target = record { target = target; entries = []; state = Ended }

abbrev pub node : ℕ → Option ℤ → Node
node number status = record no_node { number = number; status = status }

abbrev pub logs : List Log
logs = log (codes "all") ∷ log (codes "out/a.o") ∷ log (codes "out/b.o") ∷ log (codes "t") ∷ []

-- The last one has no log.
abbrev pub nodes : List Node
nodes = node 2 (Some (negsuc 0)) ∷ node 0 None ∷ node 1 (Some (pos 0)) ∷ node 3 (Some (pos 12)) ∷ node 9 (Some (pos 1)) ∷ []

-- ---- targets

names :
    (name_at logs nodes 0 ≡ codes "out/b.o") × (name_at logs nodes 1 ≡ codes "all") × (name_at logs nodes 4 ≡ [])
    × (name_at logs nodes 5 ≡ [])
    × (status_at nodes 0 ≡ Some (negsuc 0)) × (status_at nodes 1 ≡ None) × (status_at nodes 3 ≡ Some (pos 12)) × (status_at nodes 5 ≡ None)
names = (refl, refl, refl, refl, refl, refl, refl, refl)

last_parts :
    (last_part (codes "out/sub/a.o") ≡ Some (codes "a.o")) × (last_part (codes "all") ≡ Some (codes "all"))
    × (last_part (codes "dir/") ≡ None) × (last_part [] ≡ None)
    × (after_last_slash (codes "a//") ≡ []) × (after_last_slash (codes "/b") ≡ codes "b")
last_parts = (refl, refl, refl, refl, refl, refl)

-- ---- tooltips

statuses :
    status_text None ∷ status_text (Some (pos 0)) ∷ status_text (Some (pos 1)) ∷ status_text (Some (pos 127))
    ∷ status_text (Some (negsuc 0)) ∷ status_text (Some (negsuc 14)) ∷ []
    ≡ codes ", unfinished" ∷ [] ∷ codes ", exit 1" ∷ codes ", exit 127" ∷ codes ", exit -1" ∷ codes ", exit -15" ∷ []
unfolding decimal_text digits
statuses = refl

durations :
    duration_after (codes ", ") Callers 1234 ∷ duration_after (codes " in ") Recipes 125000 ∷ duration_after (codes ", ") Untimed 1234
    ∷ duration_after (codes ", ") Axis 1234 ∷ []
    ≡ codes ", 1.23 s" ∷ codes " in 2 min 05 s" ∷ [] ∷ [] ∷ []
unfolding duration_words decimal_text digits
durations = refl

-- A bar of the target at this position, or of several that begin with it.
abbrev bar : ℕ → ℕ → ℕ → ℕ → Bar
bar position count began ended = record {
  lane = 2;
  x = 7;
  width = 350;
  position = position;
  count = count;
  began = began;
  ended = ended;
  failed = true;
}

titles :
    title_of logs nodes Recipes (bar 0 1 1000 2500) ∷ title_of logs nodes Callers (bar 1 1 0 60000)
    ∷ title_of logs nodes Recipes (bar 2 1 9 5) ∷ title_of logs nodes Untimed (bar 3 1 5 5) ∷ title_of logs nodes Recipes (bar 2 3 10 30)
    ∷ title_of logs nodes Untimed (bar 3 12 10 30) ∷ []
    ≡ codes "out/b.o, 1.50 s, exit -1" ∷ codes "all, 1 min 00 s, unfinished" ∷ codes "out/a.o, 0.00 s" ∷ codes "t, exit 12"
    ∷ codes "3 targets in 0.02 s, from out/a.o" ∷ codes "12 targets, from t" ∷ []
unfolding duration_words decimal_text digits
titles = refl

-- ---- bands

lane_heights : recipe_lane_height 0 ∷ recipe_lane_height 16 ∷ recipe_lane_height 17 ∷ recipe_lane_height 40 ∷ recipe_lane_height 41
    ∷ recipe_lane_height 96 ∷ [] ≡ 18 ∷ 18 ∷ 12 ∷ 12 ∷ 8 ∷ 8 ∷ []
lane_heights = refl

bands :
    (callers_band ≡ record { kind = Callers; top = 20; lane_height = 14 })
    × (recipes_band 0 0 ≡ record { kind = Recipes; top = 26; lane_height = 18 })
    × (recipes_band 2 20 ≡ record { kind = Recipes; top = 54; lane_height = 12 })
    × (marks_band 2 20 ≡ record { kind = Untimed; top = 300; lane_height = 14 })
    × (marks_band 24 96 ≡ record { kind = Untimed; top = 1136; lane_height = 14 }) × (height_of 2 20 1 ≡ 320) × (height_of 0 0 0 ≡ 38)
    × (below callers_band 3 ≡ 68)
    × (max_caller_lanes ∷ max_recipe_lanes ∷ max_mark_lanes ∷ [] ≡ 24 ∷ 96 ∷ 1 ∷ [])
bands = (refl, refl, refl, refl, refl, refl, refl, refl, refl)

-- ---- bars

abbrev wide : ℕ → Bar
wide width = record { lane = 2; x = 7; width = width; position = 0; count = 1; began = 1000; ended = 2500; failed = true }

labels :
    (label_of (codes "out/b.o") 13 (wide 350) ≡ Some (codes "b.o")) × (label_of (codes "out/b.o") 13 (wide 349) ≡ None)
    × (label_of (codes "out/b.o") 12 (wide 350) ≡ None) × (label_of (codes "b/") 18 (wide 5000) ≡ None)
labels = (refl, refl, refl, refl)

drawn :
    (drawn_bar logs nodes (recipes_band 1 3) (wide 400)
    ≡ record {
      target = 0;
      x = 7;
      y = 76;
      width = 400;
      height = 16;
      failed = true;
      title = codes "out/b.o, 1.50 s, exit -1";
      label = Some (codes "b.o");
    })
    × (drawn_bar logs nodes (marks_band 1 3) (wide 30)
    ≡ record { target = 0; x = 7; y = 128; width = 30; height = 12; failed = true; title = codes "out/b.o, exit -1"; label = None })
    × (bar_layer logs nodes callers_band [] ≡ record { kind = Callers; shapes = [] })
unfolding duration_words decimal_text digits
drawn = (refl, refl, refl)

-- A bar of the fourth target, in the sixth lane.
drawn_lower :
    drawn_bar logs nodes (recipes_band 1 3)
    (record { lane = 5; x = 9; width = 400; position = 3; count = 1; began = 1000; ended = 2500; failed = false })
    ≡ record {
      target = 3;
      x = 9;
      y = 130;
      width = 400;
      height = 16;
      failed = false;
      title = codes "t, 1.50 s, exit 12";
      label = Some (codes "t");
    }
unfolding duration_words decimal_text digits
drawn_lower = refl

-- ---- the axis

anchors : anchor_of 0 0 ∷ anchor_of 0 9999 ∷ anchor_of 1 9700 ∷ anchor_of 1 9701 ∷ [] ≡ Start ∷ Start ∷ Middle ∷ End ∷ []
anchors = refl

-- Steps of 1 ms, of 1 s, and one that is as wide as the axis.
axes :
    (axis_shapes 98 3
    ≡ LineShape 0 98 ∷ TickShape 0 Start (codes "0") ∷ LineShape 3333 98 ∷ TickShape 3333 Middle (codes "0.001 s") ∷ LineShape 6666 98
    ∷ TickShape 6666 Middle (codes "0.002 s") ∷ LineShape 10000 98 ∷ TickShape 10000 End (codes "0.003 s") ∷ [])
    × (axis_shapes 7 5500
    ≡ LineShape 0 7 ∷ TickShape 0 Start (codes "0") ∷ LineShape 1818 7 ∷ TickShape 1818 Middle (codes "1 s") ∷ LineShape 3636 7
    ∷ TickShape 3636 Middle (codes "2 s") ∷ LineShape 5454 7 ∷ TickShape 5454 Middle (codes "3 s")
    ∷ LineShape 7272 7 ∷ TickShape 7272 Middle (codes "4 s") ∷ LineShape 9090 7 ∷ TickShape 9090 Middle (codes "5 s") ∷ [])
    × (axis_shapes 34 900000000 ≡ LineShape 0 34 ∷ TickShape 0 Start (codes "0") ∷ LineShape 10000 34
    ∷ TickShape 10000 End (codes "250:00 h") ∷ [])
unfolding tick_step_of tick_words decimal_text digits
axes = (refl, refl, refl)

-- ---- charts

abbrev pub span : ℕ → ℕ → ℕ → Bool → Span
span position began ended failed = record { began = began; position = position; ended = ended; failed = failed }

-- A window in which a unit is a millisecond.
abbrev pub window : Window
window = record { began = 1000; width = 10000 }

abbrev pub chart : Drawing
chart =
    timeline_drawing logs nodes window (span 1 1000 11000 false ∷ [])
    (span 2 1000 5000 false ∷ span 0 3000 10500 true ∷ span 4 6000 6010 false ∷ span 3 6012 6020 false ∷ []) (span 3 11000 11000 true ∷ [])

abbrev drawn_at : ℕ → ℕ → ℕ → ℕ → ℕ → Bool → List ℕ → Option (List ℕ) → Shape
drawn_at position x y width height failed title label =
    BarShape (record { target = position; x = x; y = y; width = width; height = height; failed = failed; title = title; label = label })

sizes : (chart.height ≡ 102) × (chart.lanes ≡ 2)
    × (map (λ (layer : Layer). layer.kind) chart.layers ≡ Axis ∷ Callers ∷ Recipes ∷ Untimed ∷ [])
unfolding tick_step_of
sizes = (refl, refl, refl)

axis_drawn : shapes_of Axis chart ≡ axis_shapes 98 10000
unfolding tick_step_of
axis_drawn = refl

callers_drawn : shapes_of Callers chart ≡ drawn_at 1 0 20 10000 12 false (codes "all, 10.0 s, unfinished") (Some (codes "all")) ∷ []
unfolding tick_step_of duration_words decimal_text digits
callers_drawn = refl

-- The last two have one bar, after the first one in its lane.
recipes_drawn :
    shapes_of Recipes chart
    ≡ drawn_at 2 0 40 4000 16 false (codes "out/a.o, 4.00 s") (Some (codes "a.o"))
    ∷ drawn_at 4 5000 40 20 16 false (codes "2 targets in 0.02 s, from ") None
    ∷ drawn_at 0 2000 58 7500 16 true (codes "out/b.o, 7.50 s, exit -1") (Some (codes "b.o")) ∷ []
unfolding tick_step_of duration_words decimal_text digits
recipes_drawn = refl

marks_drawn : shapes_of Untimed chart ≡ drawn_at 3 10000 82 30 12 true (codes "t, exit 12") None ∷ []
unfolding tick_step_of duration_words decimal_text digits
marks_drawn = refl

links : drawing_links chart ≡ 1 ∷ 2 ∷ 4 ∷ 0 ∷ 3 ∷ []
unfolding tick_step_of
links = refl

-- ---- groups of one span

-- Specification mutants are refuted with these: a group of one span has one bar, which says what it does of this span.
pub no_bar : (logs : List Log) (nodes : List Node) (window : Window) (kind : GroupKind) (one : Span) (spans : List Span)
    → DrawsAll logs nodes window kind (one ∷ spans) [] → ⊥
no_bar logs nodes window kind one spans draws = by draws.bars draws.once draws.drawn
  where
    by : (bars : List (List Span)) → IsPermutation (one ∷ spans) (flat_map (λ (bar : List Span). bar) bars)
        → AllZip (Draws logs nodes window kind) bars [] → ⊥
    by [] once zip = let same = length_permutation (one ∷ spans) [] once in omega (arith, same)
    by (bar ∷ bars) once zip = zip

-- All spans of a group with one shape are in its bar.
pub only_bar : (logs : List Log) (nodes : List Node) (window : Window) (kind : GroupKind) (spans : List Span) (shape : Shape)
    → DrawsAll logs nodes window kind spans (shape ∷ [])
    → (bar : List Span) × IsPermutation spans bar × Draws logs nodes window kind bar shape
only_bar logs nodes window kind spans shape draws = by draws.bars draws.once draws.drawn
  where
    by : (bars : List (List Span)) → IsPermutation spans (flat_map (λ (bar : List Span). bar) bars)
        → AllZip (Draws logs nodes window kind) bars (shape ∷ [])
        → (bar : List Span) × IsPermutation spans bar × Draws logs nodes window kind bar shape
    by [] once zip = absurd zip
    by (bar ∷ []) once zip = (bar, subst (λ (all : List Span). IsPermutation spans all) (append-nil bar) once, zip.0)
    by (bar ∷ other ∷ bars) once zip = absurd zip.1

pub one_bar : (logs : List Log) (nodes : List Node) (window : Window) (kind : GroupKind) (one : Span) (shape : Shape)
    → DrawsAll logs nodes window kind (one ∷ []) (shape ∷ []) → Draws logs nodes window kind (one ∷ []) shape
one_bar logs nodes window kind one shape draws =
    let found = only_bar logs nodes window kind (one ∷ []) shape draws in
    subst (λ (spans : List Span). Draws logs nodes window kind spans shape)
    (only found.0 (All-permutation (λ (span : Span). span ≡ one) (one ∷ []) found.0 found.1 itself)
    (length_permutation (one ∷ []) found.0 found.1)) found.2
  where
    itself : (k : ℕ) (other : Span) → k < 1 → slice_index_or (one ∷ []) k other ≡ one
    itself zero other below = refl
    itself (suc k) other below = absurd (omega (arith, below))

    only : (bar : List Span) → All (λ (span : Span). span ≡ one) bar → length bar ≡ 1 → bar ≡ one ∷ []
    only [] all same = absurd (omega (arith, same))
    only (span ∷ []) all same = ap (λ (first : Span). first ∷ []) (all 0 one (omega arith))
    only (span ∷ other ∷ bar) all same = absurd (omega (arith, same))

-- A group without spans has no bar.
pub no_span : (logs : List Log) (nodes : List Node) (window : Window) (kind : GroupKind) (shape : Shape) (shapes : List Shape)
    → DrawsAll logs nodes window kind [] (shape ∷ shapes) → ⊥
no_span logs nodes window kind shape shapes draws = by draws.bars draws.once draws.filled draws.drawn
  where
    by : (bars : List (List Span)) → IsPermutation [] (flat_map (λ (bar : List Span). bar) bars)
        → AllByRecursion (λ (bar : List Span). 0 < length bar) bars → AllZip (Draws logs nodes window kind) bars (shape ∷ shapes) → ⊥
    by [] once filled zip = zip
    by ([] ∷ bars) once filled zip = let some : 0 < 0 = filled.0 in omega (arith, some)
    by ((span ∷ bar) ∷ bars) once filled zip =
        let same = length_permutation [] (span ∷ (bar ++ flat_map (λ (bar : List Span). bar) bars)) once in omega (arith, same)

-- The only bar of a group includes all spans of the group.
pub included : (logs : List Log) (nodes : List Node) (window : Window) (kind : GroupKind) (spans : List Span) (bar : DrawnBar)
    → DrawsAll logs nodes window kind spans (BarShape bar ∷ []) → All (Includes window bar) spans
included logs nodes window kind spans bar draws =
    let found = only_bar logs nodes window kind spans (BarShape bar) draws in
    All-permutation (Includes window bar) found.0 spans (IsPermutation-sym spans found.0 found.1) (each found.0 found.2.times)
  where
    each : (all : List Span) → AllByRecursion (Includes window bar) all → All (Includes window bar) all
    each [] holds k other below = absurd (omega (arith, below))
    each (span ∷ all) holds zero other below = holds.0
    each (span ∷ all) holds (suc k) other below = each all holds.1 k other (omega (arith, below))
