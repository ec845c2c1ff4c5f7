-- The axis of a chart: a line and a tick for each step of time.
use Rattle.std.specs.Prelude.{ℕ, ◌+◌, ◌*◌, ◌/◌, ◌==◌, ltb, List, [], ◌∷◌, if◌then◌else◌}
use Rattle.std.specs.List.{flat_map, range_with_len}
use Rattle.redo_html.specs.declared.chart.Anchor.{Anchor}
use Rattle.redo_html.specs.declared.chart.Anchor.TheVariants.{Start, Middle, End}
use Rattle.redo_html.specs.declared.chart.GroupKind.TheVariants.{Axis}
use Rattle.redo_html.specs.Chart.{Layer, Shape}
use Rattle.redo_html.specs.Chart.Shape.{LineShape, TickShape}
use Rattle.redo_units.specs.Ticks.{tick_step_of, tick_text}

-- The text of the first tick begins at its line, and a text at the right edge ends at its line.
abbrev pub anchor_of : ℕ → ℕ → Anchor
anchor_of i x = if i == 0 then Start else if ltb 9700 x then End else Middle

-- Where a tick is, in hundredths of a percent of the width. The width and the step are in milliseconds.
abbrev pub tick_x : ℕ → ℕ → ℕ → ℕ
tick_x width step i = i * step * 10000 / width

-- The number of the last tick. The first one has the number 0.
abbrev pub last_tick : ℕ → ℕ
last_tick width = width / tick_step_of width

abbrev pub tick_shapes : ℕ → ℕ → ℕ → ℕ → List Shape
tick_shapes bottom width step i =
    let x = tick_x width step i in LineShape x bottom ∷ TickShape x (anchor_of i x) (tick_text (i * step) step) ∷ []

-- The axis of a chart that shows this width. Its lines end at `bottom`.
abbrev pub axis_shapes : ℕ → ℕ → List Shape
axis_shapes bottom width = flat_map (tick_shapes bottom width (tick_step_of width)) (range_with_len 0 (last_tick width + 1))

abbrev pub axis_layer : ℕ → ℕ → Layer
axis_layer bottom width = record { kind = Axis; shapes = axis_shapes bottom width }
