use Rattle.std.proofs.Common.{◌≡◌, take}
use Rattle.std.specs.List.{flat_map}
use Rattle.redo_device.specs.Sink.{append_output}
use Rattle.redo_html.specs.Private.Charting.{fragment_html}
use Rattle.redo_html.proofs.chart.write_fragments.Given as goal

-- The fragments so far were written.
abbrev pub invariant-loop-fragment : goal.invariant-loop-fragment
invariant-loop-fragment g l = g.W.Sink.written l.out
    ≡ append_output (g.W.Sink.written l.initial.out) (flat_map fragment_html (take l.fragment-index l.fragments)) 0
