use Rattle.std.proofs.Common.{ℕ, ◌+◌, ◌<◌, List, length, subst}
use Rattle.redo_outline.proofs.WarningLemmas.{Counts, counts_all, counts_init, counts_next, counts_smaller, to_end}
use Rattle.redo_outline.proofs.facts.count_warnings.Goals as goal

pub warnings-init : goal.warnings-init
warnings-init c = counts_init c.args.lines.now c.requires

pub warnings-smaller : goal.warnings-smaller
warnings-smaller c =
    let left = c.warnings.left.now in
    let at = c.in-Some.at in
    subst (λ (bytes : List ℕ). length bytes < length left) (to_end left c.after_line-left.result.now at c.after_line-left.ensures)
    (counts_smaller c.args.lines.now left c.warnings.count c.warnings.invariant at c.in-Some.ensures)

pub warnings-preserved : goal.warnings-preserved
warnings-preserved c =
    let left = c.warnings.left.now in
    let at = c.in-Some.at in
    subst (λ (bytes : List ℕ). Counts c.args.lines.now bytes (c.warnings.count + 1))
    (to_end left c.after_line-left.result.now at c.after_line-left.ensures)
    (counts_next c.args.lines.now left c.warnings.count c.warnings.invariant at c.in-Some.ensures)

pub returns : goal.returns
returns c = counts_all c.args.lines.now c.warnings.left.now c.warnings.count c.warnings.invariant c.in_default.ensures
