use Rattle.std.proofs.Common.{take}
use Rattle.std.specs.List.{flat_map}
use Rattle.redo_page.specs.Scope.{target_view}
use Rattle.redo_page.specs.Private.Viewing.{view_of}
use Rattle.redo_page.specs.Private.Writing.{WroteParts}
use Rattle.redo_page.proofs.template.write_each_target.Given as goal

abbrev pub invariant-loop-node : goal.invariant-loop-node
invariant-loop-node g l = WroteParts g.W.Sink.written l.initial.page l.page
    (flat_map (λ node. g.B.Block.parts l.block (target_view (view_of l.scope) node)) (take l.node-index l.scope.nodes.now))
