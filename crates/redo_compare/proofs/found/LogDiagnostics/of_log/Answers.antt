use Rattle.std.proofs.Common.{length, ap, ◌∙◌, arith}
use Rattle.redo_compare.proofs.LogLemmas.{found-all, found-line, found-none}
use Rattle.redo_compare.proofs.found.LogDiagnostics.of_log.Goals as goal

pub lines-init : goal.lines-init
lines-init c = found-none _ _ _ c.new-lines.ensures.left c.new-lines.ensures.done c.new-found.ensures

pub returns-in_default : goal.returns-in_default
returns-in_default c =
    found-all _ _ _ c.in_default.ensures.line (c.skip_unless_last.ensures.found _ c.lines.invariant)

pub lines-smaller : goal.lines-smaller
lines-smaller c =
    let few = c.skip_unless_last.ensures.fewer in
    let size = ap length c.in-Some.ensures.line in
    omega (arith, few, size)

pub lines-preserved : goal.lines-preserved
lines-preserved c =
    found-line _ _ _ _ _ _ c.in-Some.ensures.line c.in-Some.ensures.done
    (λ lines here. c.in_ok-add.ensures lines (c.position-position.ensures ∙ here))
    (c.skip_unless_last.ensures.found _ c.lines.invariant)
