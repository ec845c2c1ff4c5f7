use Rattle.std.proofs.Common.{◌≡◌, map, take}
use Rattle.std.specs.List.{flat_map}
use Rattle.redo_device.specs.Sink.{append_output}
use Rattle.redo_html.specs.Chart.{shape_of}
use Rattle.redo_html.specs.Private.Charting.{shape_html}
use Rattle.redo_html.proofs.chart.write_items.Given as goal

-- The items so far were written.
abbrev pub invariant-loop-item : goal.invariant-loop-item
invariant-loop-item g l = g.W.Sink.written l.out
    ≡ append_output (g.W.Sink.written l.initial.out) (flat_map (shape_html l.kind) (map shape_of (take l.item-index l.items))) 0
