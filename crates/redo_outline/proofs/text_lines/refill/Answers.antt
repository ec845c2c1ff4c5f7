use Rattle.std.proofs.Common.{sym, ◌∙◌}
use Rattle.redo_outline.proofs.TextLineLemmas.{is_nothing, refilled}
use Rattle.redo_outline.proofs.text_lines.refill.Goals as goal

pub returns-then-is_empty-clause-lines : goal.returns-then-is_empty-clause-lines
returns-then-is_empty-clause-lines c =
    refilled c.args.logs.now.logs c.args.number c.args.stretch.now c.args.next c.next_lines.result.0.now c.next_lines.result.2
    (is_nothing c.args.stretch.now (sym c.is_empty.ensures ∙ c.if-is_empty.true)) c.next_lines.ensures.lines
