use Rattle.std.proofs.Common.{sym, ◌∙◌}
use Rattle.redo_compare.proofs.LogLemmas.{fewer_skipped, found-skipped}
use Rattle.redo_compare.proofs.log.skip_unless_last.Goals as goal

pub returns-then-not-is_last-clause-found : goal.returns-then-not-is_last-clause-found
returns-then-not-is_last-clause-found c = λ all.
    found-skipped all _ _ _ c.skip_others.ensures (sym c.is_last.ensures ∙ c.if-not-is_last.true)

pub returns-then-not-is_last-clause-fewer : goal.returns-then-not-is_last-clause-fewer
returns-then-not-is_last-clause-fewer c = fewer_skipped _ _ c.skip_others.ensures
