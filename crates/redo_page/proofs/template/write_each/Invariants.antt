use Rattle.std.proofs.Common.{take}
use Rattle.std.specs.List.{flat_map}
use Rattle.redo_page.specs.Scope.{row_view}
use Rattle.redo_page.specs.Private.Viewing.{view_of}
use Rattle.redo_page.specs.Private.Writing.{WroteParts}
use Rattle.redo_page.proofs.template.write_each.Given as goal

abbrev pub invariant-loop-rank : goal.invariant-loop-rank
invariant-loop-rank g l = WroteParts g.W.Sink.written l.initial.page l.page
    (flat_map (λ rank. g.B.Block.parts l.block (row_view (view_of l.scope) l.ranks rank)) (take l.rank-index l.ranks))
