use Rattle.std.proofs.Common.{ap}
use Rattle.redo_page.specs.Scope.{target_view}
use Rattle.redo_page.specs.Private.Viewing.{view_of}
use Rattle.redo_page.specs.Tree.{no_node}
use Rattle.redo_page.proofs.PartLoops.{wrote_as}
use Rattle.redo_page.proofs.WriterLemmas.{wrote_next}
use Rattle.redo_page.proofs.template.write_each_target.Goals as goal

pub loop-node-preserved : goal.loop-node-preserved
loop-node-preserved g c =
    let parts = g.B.Block.parts c.args.block.now in
    wrote_next (λ node. parts (target_view (view_of c.args.scope.now) node)) c.args.scope.now.nodes.now c.loop-node.node-index
    no_node c.loop-node-test.true c.loop-node.invariant
    (wrote_as g.W.Sink.written c.loop-node.page c.write.new.page _ _ (ap parts c.at_target.ensures) c.write.ensures)
