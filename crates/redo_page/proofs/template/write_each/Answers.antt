use Rattle.std.proofs.Common.{ap}
use Rattle.redo_page.specs.Scope.{row_view}
use Rattle.redo_page.specs.Private.Viewing.{view_of}
use Rattle.redo_page.proofs.PartLoops.{wrote_as}
use Rattle.redo_page.proofs.WriterLemmas.{wrote_next}
use Rattle.redo_page.proofs.template.write_each.Goals as goal

pub loop-rank-preserved : goal.loop-rank-preserved
loop-rank-preserved g c =
    let parts = g.B.Block.parts c.args.block.now in
    wrote_next (λ rank. parts (row_view (view_of c.args.scope.now) c.args.ranks.now rank)) c.args.ranks.now c.loop-rank.rank-index
    (record { value = 0; position = 0 }) c.loop-rank-test.true c.loop-rank.invariant
    (wrote_as g.W.Sink.written c.loop-rank.page c.write.new.page _ _ (ap parts c.at_row.ensures) c.write.ensures)
