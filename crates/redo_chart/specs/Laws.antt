-- The statements of the laws.
use Rattle.std.specs.Prelude.{◌≡◌, ℕ, ◌+◌, ◌==◌, ◌-◌, ◌<◌, ◌≤◌, max, nat_lt, Bool, List, [], ◌∷◌, ◌++◌, drop, length, map, take, Some, IfSome, if◌then◌else◌}
use Rattle.std.specs.List.{AllByRecursion, AllZip, flat_map, list_all}
use Rattle.std.specs.List.Sorted.{IsPermutation}
use Rattle.redo_html.specs.declared.chart.GroupKind.{GroupKind}
use Rattle.redo_html.specs.declared.chart.GroupKind.TheVariants.{Axis, Callers, Recipes, Untimed}
use Rattle.redo_html.specs.Chart.{DrawnBar, Drawing, Layer, Shape}
use Rattle.redo_html.specs.Chart.Shape.{BarShape, LineShape, TickShape}
use Rattle.redo_logs.specs.Logs.{Log}
use Rattle.redo_outline.specs.declared.node.Node.{Node}
use Rattle.redo_timeline.specs.declared.span.Span.{Span}
use Rattle.redo_timeline.specs.declared.span.Window.{Window}
use Rattle.redo_timeline.specs.Bars.{began_of, has_failed, position_of, units, width_of}
use Rattle.redo_timeline.specs.Lanes.{ended_of}
use Rattle.redo_timeline.specs.Laws.{IsSlimIfJoined}
use Rattle.redo_timeline.specs.Timeline.{bars_of}
use Rattle.redo_chart.specs.Bands.{max_mark_lanes, max_caller_lanes, max_recipe_lanes}
use Rattle.redo_chart.specs.Targets.{last_part, name_at}
use Rattle.redo_chart.specs.Titles.{title_for}

-- Whether the positions of all spans are below this number.
abbrev pub are_below : ℕ → List Span → Bool
are_below count spans = list_all (λ (span : Span). nat_lt span.position count) spans

-- A number for each kind of layer, and the shapes in the layers of one kind.
abbrev pub code : GroupKind → ℕ
code Axis = 0
code Callers = 1
code Recipes = 2
code Untimed = 3

abbrev pub shapes_of : GroupKind → Drawing → List Shape
shapes_of kind drawing = flat_map (λ (layer : Layer). if code layer.kind == code kind then layer.shapes else []) drawing.layers

-- The kinds of the layers, in order.
abbrev pub kinds_of : Drawing → List GroupKind
kinds_of drawing = map (λ (layer : Layer). layer.kind) drawing.layers

-- A shape is not a bar.
abbrev pub IsNoBar : Shape → Type 0
IsNoBar (LineShape x bottom) = Unit {0}
IsNoBar (TickShape x at text) = Unit {0}
IsNoBar (BarShape bar) = ⊥

-- A bar includes the times of this span.
abbrev pub Includes : Window → DrawnBar → Span → Type 0
Includes window bar span = (bar.x ≤ units window span.began) × (units window span.ended ≤ bar.x + bar.width)

-- A bar states this of its spans: it leads to the target of the first one, it begins when this one began, it is as wide as the time until
-- the last of them ended, but at least 0.1 %, and it is red and at least 0.3 % wide if one of them failed. It includes all their times. If
-- it has a label, this is the last part of the name of the target. A bar that is 3.5 % wide and more than 10 pixels high has one, unless
-- that part is empty.
pub record SaysOf (logs : List Log) (nodes : List Node) (window : Window) (kind : GroupKind) (spans : List Span) (bar : DrawnBar)
    : Type 0 where
  pub target : bar.target ≡ position_of spans
  pub begins : bar.x ≡ units window (began_of spans)
  pub lasts : bar.width ≡ max (width_of window spans) (if has_failed spans then 30 else 10)
  pub fails : bar.failed ≡ has_failed spans
  pub title : bar.title ≡ title_for logs nodes kind (position_of spans) (length spans) (ended_of spans - began_of spans)
  pub label : IfSome bar.label (λ label. last_part (name_at logs nodes (position_of spans)) ≡ Some label)
  pub labelled : 350 ≤ bar.width → 10 < bar.height → bar.label ≡ last_part (name_at logs nodes (position_of spans))
  pub times : AllByRecursion (Includes window bar) spans

-- A shape is a bar, and says this of some spans.
abbrev pub Draws : List Log → List Node → Window → GroupKind → List Span → Shape → Type 0
Draws logs nodes window kind spans (BarShape bar) = SaysOf logs nodes window kind spans bar
Draws logs nodes window kind spans shape = ⊥

-- The shapes of a group are bars. Each span of the group is in exactly one of them, and each bar has a span. A bar of several spans is
-- narrower than 0.5 % by its times, and none of its spans failed.
pub record DrawsAll (logs : List Log) (nodes : List Node) (window : Window) (kind : GroupKind) (spans : List Span) (shapes : List Shape)
    : Type 0 where
  -- The spans of each bar.
  pub bars : List (List Span)
  pub once : IsPermutation spans (flat_map (λ (bar : List Span). bar) bars)
  pub filled : AllByRecursion (λ (bar : List Span). 0 < length bar) bars
  pub drawn : AllZip (Draws logs nodes window kind) bars shapes
  pub narrow : AllByRecursion (IsSlimIfJoined window) bars

-- The lanes of a chart, and the shapes of its groups of bars, from the top.
abbrev pub chart_lanes : Window → List Span → List Span → List Span → List (List (List Span))
chart_lanes window callers recipes marks =
    bars_of window max_caller_lanes callers ++ (bars_of window max_recipe_lanes recipes ++ bars_of window max_mark_lanes marks)

abbrev pub chart_bars : Drawing → List Shape
chart_bars drawing = shapes_of Callers drawing ++ (shapes_of Recipes drawing ++ shapes_of Untimed drawing)

-- The shapes of each lane, as many as it has bars.
abbrev pub rows_of : List (List (List Span)) → List Shape → List (List Shape)
rows_of [] shapes = []
rows_of (bars ∷ lanes) shapes = take (length bars) shapes ∷ rows_of lanes (drop (length bars) shapes)

-- A shape is a bar from one height to another one.
abbrev pub IsFromTo : ℕ → ℕ → Shape → Type 0
IsFromTo top bottom (LineShape x end) = ⊥
IsFromTo top bottom (TickShape x at text) = ⊥
IsFromTo top bottom (BarShape bar) = (bar.y ≡ top) × (bar.y + bar.height ≡ bottom)

-- All shapes of a row are bars from one height, which is below `above`, to another one.
pub record IsRow (above bottom : ℕ) (row : List Shape) : Type 0 where
  pub top : ℕ
  pub gap : above < top
  pub height : top < bottom
  pub bars : AllByRecursion (IsFromTo top bottom) row

-- Each row is below the one before it. The first one is below `above`, and the last one ends at `end` or above.
abbrev pub AreRows : ℕ → ℕ → List (List Shape) → Type 0
AreRows above end [] = above ≤ end
AreRows above end (row ∷ rows) = (bottom : ℕ) × IsRow above bottom row × AreRows bottom end rows
