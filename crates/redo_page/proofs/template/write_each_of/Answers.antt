use Rattle.std.proofs.Common.{ap}
use Rattle.redo_page.specs.Scope.{position_view}
use Rattle.redo_page.specs.Private.Viewing.{view_of}
use Rattle.redo_page.proofs.PartLoops.{wrote_as}
use Rattle.redo_page.proofs.WriterLemmas.{wrote_next}
use Rattle.redo_page.proofs.template.write_each_of.Goals as goal

pub loop-position-preserved : goal.loop-position-preserved
loop-position-preserved g c =
    let parts = g.B.Block.parts c.args.block.now in
    wrote_next (λ position. parts (position_view (view_of c.args.scope.now) position)) c.args.positions.now c.loop-position.position-index
    0 c.loop-position-test.true c.loop-position.invariant
    (wrote_as g.W.Sink.written c.loop-position.page c.write.new.page _ _ (ap parts c.at_position.ensures) c.write.ensures)
