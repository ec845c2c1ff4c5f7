use Rattle.std.proofs.Common.{sym, ◌∙◌}
use Rattle.redo_diagnostics.proofs.StretchLemmas.{without_temporaries}
use Rattle.redo_diagnostics.proofs.diagnostic.may_have_temporary.Goals as goal

pub returns : goal.returns
returns c = λ is. without_temporaries c.args.lines.now c.find.result c.find.ensures (sym c.is_some.ensures ∙ is)
