use Rattle.std.proofs.Common.{◌∙◌, ◌∷◌, [], ap}
use Rattle.redo_args.proofs.RejectionLemmas.{kind_is}
use Rattle.redo_args.proofs.rejection.fault_by.Goals as goal

pub returns : goal.returns
returns c =
    ap (λ kind. kind ∷ []) c.kind.ensures
    ∙ kind_is _ c.in-Err.error c.requires.one_kind (λ memory. c.in_default.not-OutOfMemory (c.kind.ensures ∙ memory))
    (c.in-Err.ensures.kinds c.requires.exact)
