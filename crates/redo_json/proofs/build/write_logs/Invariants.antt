use Rattle.std.proofs.Common.{◌≡◌, take}
use Rattle.std.specs.List.{flat_map}
use Rattle.redo_device.specs.Sink.{append_output}
use Rattle.redo_line.specs.Lines.{with_line_feed}
use Rattle.redo_json.specs.Build.{object_text, request_of}
use Rattle.redo_json.specs.Private.Values.{node_values}
use Rattle.redo_json.proofs.build.write_logs.Given as goal

-- The objects of the nodes so far were written.
abbrev pub invariant-loop-node : goal.invariant-loop-node
invariant-loop-node g l = g.W.Sink.written l.out
    ≡ append_output (g.W.Sink.written l.initial.out)
    (flat_map (λ node. with_line_feed (object_text (node_values (request_of l.request) l.table l.nodes node))) (take l.node-index
    l.nodes)) 0
