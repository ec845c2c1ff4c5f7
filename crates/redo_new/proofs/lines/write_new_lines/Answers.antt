use Rattle.std.proofs.Common.{◌≡◌, ◌∙◌, ℕ, List, sym, subst}
use Rattle.redo_device.specs.Sink.{append_output}
use Rattle.redo_device.proofs.WritesLemmas.{append_nothing}
use Rattle.redo_outline.specs.Facts.{target_at}
use Rattle.redo_new.specs.News.{diagnostic_lines}
use Rattle.redo_new.specs.Private.Sections.{new_text}
use Rattle.redo_new.proofs.LineLemmas.{none_set}
use Rattle.redo_new.proofs.lines.write_new_lines.Goals as goal

pub returns-else-is_any_set : goal.returns-else-is_any_set
returns-else-is_any_set g c =
    let out = g.W.Sink.written c.args.out.now in
    subst (λ (lines : List (List ℕ)). out ≡ append_output out (new_text (target_at c.args.table.now c.args.number) lines) 0)
    (sym (none_set c.args.flags.now (diagnostic_lines c.args.table.now c.args.number) (sym c.is_any_set.ensures ∙ c.if-is_any_set.false)))
    (append_nothing out)
