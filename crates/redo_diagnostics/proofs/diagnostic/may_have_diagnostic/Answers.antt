use Rattle.std.proofs.Common.{not, sym, ◌∙◌, ap}
use Rattle.redo_diagnostics.proofs.StretchLemmas.{no_diagnostics, without_colons}
use Rattle.redo_diagnostics.proofs.diagnostic.may_have_diagnostic.Goals as goal

pub returns-then-is_none : goal.returns-then-is_none
returns-then-is_none c = λ _.
    without_colons c.args.lines.now c.memchr.result c.memchr.ensures (c.is_none.ensures ∙ ap not c.if-is_none.true)

pub returns : goal.returns
returns c = λ is.
    no_diagnostics c.args.lines.now c.memchr-2.result c.find.result c.find-2.result c.memchr-2.ensures c.find.ensures c.find-2.ensures
    (sym c.is_some.ensures ∙ c.if-is_some.false) (sym c.is_some-2.ensures ∙ c.if-is_some-2.false) (sym c.is_some-3.ensures ∙ is)
