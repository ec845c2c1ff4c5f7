use Rattle.std.proofs.Common.{slice_get, ap, ◌∙◌}
use Rattle.redo_index.proofs.IndexEntries.{log-number, index_facts}
use Rattle.redo_index.proofs.index.Index.fid.Goals as goal

pub returns : goal.returns
returns c = ap (λ numbers. slice_get numbers c.args.i) (index_facts _ _ c.self.view_is c.self.invariant).numbers_are
    ∙ log-number _ c.args.i _ c.index.ensures
