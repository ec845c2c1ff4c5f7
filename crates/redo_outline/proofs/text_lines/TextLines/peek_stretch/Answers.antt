use Rattle.std.proofs.Common.{sym, ap, ◌∙◌}
use Rattle.redo_outline.specs.TextLines.{LinesLeft}
use Rattle.redo_outline.proofs.TextLineLemmas.{are_stretch, is_nothing}
use Rattle.redo_outline.proofs.text_lines.TextLines.peek_stretch.Goals.{then-is_empty, else-is_empty}
use Rattle.redo_outline.proofs.text_lines.TextLines.peek_stretch.Goals as goal

pub returns-clause-lines : goal.returns-clause-lines
returns-clause-lines c = elim c.if-is_empty.branch [
  | then-is_empty w ↦ rw w.result-is (sym (ap (λ (lines : LinesLeft). lines.left) c.self.view_is)
      ∙ c.refill-count.ensures.lines.none (is_nothing c.refill-count.result.0.now (sym c.is_empty.ensures ∙ w.if-is_empty.true)))
  | else-is_empty w ↦ rw w.result-is (are_stretch c.refill-count.result.0.now c.refill-count.ensures.lines.complete
      (sym c.is_empty.ensures ∙ w.if-is_empty.false))
]
