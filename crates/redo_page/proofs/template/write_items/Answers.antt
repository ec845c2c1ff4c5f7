use Rattle.std.proofs.Common.{ap}
use Rattle.redo_page.specs.Private.Viewing.{view_of}
use Rattle.redo_page.specs.Template.{parts_of_item}
use Rattle.redo_page.proofs.PartLoops.{wrote_as}
use Rattle.redo_page.proofs.WriterLemmas.{wrote_next}
use Rattle.redo_page.proofs.template.write_items.Goals as goal

pub loop-item-preserved : goal.loop-item-preserved
loop-item-preserved g c =
    let parts = parts_of_item g.T.Label.bytes g.B.Block.parts (view_of c.args.scope.now) in
    wrote_next parts c.args.items.now c.loop-item.item-index c.item-item.result c.loop-item-test.true c.loop-item.invariant
    (wrote_as g.W.Sink.written c.loop-item.page c.write_item.new.page _ _ (ap parts c.item-item.is) c.write_item.ensures)
