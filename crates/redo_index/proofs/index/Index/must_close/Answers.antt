use Rattle.std.proofs.Common.{slice_get, ap, ◌∙◌}
use Rattle.redo_index.proofs.IndexEntries.{log-must_close, index_facts}
use Rattle.redo_index.proofs.index.Index.must_close.Goals as goal

pub returns : goal.returns
returns c = ap (λ flags. slice_get flags c.args.i) (index_facts _ _ c.self.view_is c.self.invariant).flags_are
    ∙ log-must_close _ c.args.i _ c.index.ensures
