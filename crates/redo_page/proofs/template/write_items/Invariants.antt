use Rattle.std.proofs.Common.{take}
use Rattle.redo_page.specs.Private.Viewing.{view_of}
use Rattle.redo_page.specs.Template.{parts_of_items}
use Rattle.redo_page.specs.Private.Writing.{WroteParts}
use Rattle.redo_page.proofs.template.write_items.Given as goal

abbrev pub invariant-loop-item : goal.invariant-loop-item
invariant-loop-item g l = WroteParts g.W.Sink.written l.initial.page l.page
    (parts_of_items g.T.Label.bytes g.B.Block.parts (view_of l.scope) (take l.item-index l.items))
