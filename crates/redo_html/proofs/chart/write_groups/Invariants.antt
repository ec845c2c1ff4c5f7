use Rattle.std.proofs.Common.{◌≡◌, map, take}
use Rattle.std.specs.List.{flat_map}
use Rattle.redo_device.specs.Sink.{append_output}
use Rattle.redo_html.specs.Chart.{layer_of}
use Rattle.redo_html.specs.Private.Charting.{layer_html}
use Rattle.redo_html.proofs.chart.write_groups.Given as goal

-- The groups so far were written.
abbrev pub invariant-loop-group : goal.invariant-loop-group
invariant-loop-group g l = g.W.Sink.written l.out
    ≡ append_output (g.W.Sink.written l.initial.out) (flat_map layer_html (map layer_of (take l.group-index l.groups))) 0
