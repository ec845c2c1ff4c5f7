use Rattle.std.proofs.Common.{◌≡◌, map}
use Rattle.std.specs.List.{flat_map, range_with_len}
use Rattle.redo_html.specs.Chart.{shape_of}
use Rattle.redo_chart.specs.Axis.{tick_shapes}
use Rattle.redo_chart.proofs.axis.axis_items.Given as goal

abbrev pub invariant-loop-i : goal.invariant-loop-i
invariant-loop-i l = map shape_of l.items.items ≡ flat_map (tick_shapes l.bottom l.width l.step) (range_with_len 0 l.i)
