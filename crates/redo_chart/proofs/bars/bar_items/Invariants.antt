use Rattle.std.proofs.Common.{◌≡◌, map, take}
use Rattle.redo_html.specs.Chart.{shape_of}
use Rattle.redo_chart.specs.Bars.{bar_shapes}
use Rattle.redo_chart.proofs.bars.bar_items.Given as goal

abbrev pub invariant-loop-i : goal.invariant-loop-i
invariant-loop-i l = map shape_of l.items.items ≡ bar_shapes l.table l.nodes l.band (take l.i l.bars)
