-- The layers of the chart, with their shapes.
use Rattle.std.specs.Prelude.{ℕ, List, [], ◌∷◌}
use Rattle.redo_html.specs.declared.chart.GroupKind.{GroupKind}
use Rattle.redo_html.specs.declared.chart.GroupKind.TheVariants.{Axis, Callers, Recipes, Untimed}
use Rattle.redo_html.specs.Chart.{Drawing, Layer, Shape}

abbrev pub layer_with : GroupKind → List Shape → Layer
layer_with kind shapes = record { kind = kind; shapes = shapes }

abbrev pub drawing_with : ℕ → ℕ → List Shape → List Shape → List Shape → List Shape → Drawing
drawing_with height lanes axis callers recipes marks = record {
  height = height;
  lanes = lanes;
  layers = layer_with Axis axis ∷ layer_with Callers callers ∷ layer_with Recipes recipes ∷ layer_with Untimed marks ∷ [];
}
