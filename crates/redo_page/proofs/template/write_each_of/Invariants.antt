use Rattle.std.proofs.Common.{take}
use Rattle.std.specs.List.{flat_map}
use Rattle.redo_page.specs.Scope.{position_view}
use Rattle.redo_page.specs.Private.Viewing.{view_of}
use Rattle.redo_page.specs.Private.Writing.{WroteParts}
use Rattle.redo_page.proofs.template.write_each_of.Given as goal

abbrev pub invariant-loop-position : goal.invariant-loop-position
invariant-loop-position g l = WroteParts g.W.Sink.written l.initial.page l.page
    (flat_map (λ position. g.B.Block.parts l.block (position_view (view_of l.scope) position)) (take l.position-index l.positions))
