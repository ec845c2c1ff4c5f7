use Rattle.std.proofs.Common.{◌++◌, refl, sym, ◌∙◌, subst}
use Rattle.std.specs.Prelude.{codes}
use Rattle.redo_json.proofs.KeyVerbatimLemmas.{Fit, append-fit, verbatim_by_key}
use Rattle.redo_json.proofs.diagnostics.is_verbatim_diagnostic.Goals as goal

pub returns-then-is_verbatim : goal.returns-then-is_verbatim
returns-then-is_verbatim c = λ is.
    let origin = c.parts.result.0.now in
    let tail = c.parts.result.1.now in
    verbatim_by_key c.requires.of_line.0 c.args.diagnostic.now c.requires.of_line.1
    (subst Fit (sym c.parts.ensures ∙ c.requires.key)
    (append-fit (origin ++ codes ": ") tail
    (append-fit origin (codes ": ") (c.is_verbatim.ensures c.if-is_verbatim.true) refl)
    (c.is_verbatim-then-is_verbatim.ensures is)))
