-- How the bars of a timeline are drawn.
use Rattle.std.specs.Prelude.{ℕ, ◌+◌, ◌-◌, ◌*◌, ◌&&◌, leb, ltb, List, Option, None, map, if◌then◌else◌}
use Rattle.redo_html.specs.Chart.{DrawnBar, Layer, Shape}
use Rattle.redo_html.specs.Chart.Shape.{BarShape}
use Rattle.redo_logs.specs.Logs.{Log}
use Rattle.redo_outline.specs.declared.node.Node.{Node}
use Rattle.redo_timeline.specs.declared.bar.Bar.{Bar}
use Rattle.redo_chart.specs.declared.band.Band.{Band}
use Rattle.redo_chart.specs.Targets.{last_part, name_at}
use Rattle.redo_chart.specs.Titles.{title_of}

-- A bar has a label if it is large enough for one: at least 3.5 % wide, in a lane of more than 12 pixels.
abbrev pub label_of : List ℕ → ℕ → Bar → Option (List ℕ)
label_of name lane_height bar = if leb 350 bar.width && ltb 12 lane_height then last_part name else None

-- A bar, as it is drawn in a band.
abbrev pub drawn_bar : List Log → List Node → Band → Bar → DrawnBar
drawn_bar logs nodes band bar = record {
  target = bar.position;
  x = bar.x;
  y = band.top + bar.lane * band.lane_height;
  width = bar.width;
  height = band.lane_height - 2;
  failed = bar.failed;
  title = title_of logs nodes band.kind bar;
  label = label_of (name_at logs nodes bar.position) band.lane_height bar;
}

abbrev pub bar_shapes : List Log → List Node → Band → List Bar → List Shape
bar_shapes logs nodes band bars = map (λ (bar : Bar). BarShape (drawn_bar logs nodes band bar)) bars

abbrev pub bar_layer : List Log → List Node → Band → List Bar → Layer
bar_layer logs nodes band bars = record { kind = band.kind; shapes = bar_shapes logs nodes band bars }
