use Rattle.std.proofs.Common.{ℕ, List, None, ap, sym, ◌∙◌}
use Rattle.redo_outline.specs.Facts.{entries_at, texts_of}
use Rattle.redo_page.proofs.CauseLemmas.{cause_begins, cause_from}
use Rattle.redo_page.proofs.cause.find_cause.Goals as goal

pub lines-init : goal.lines-init
lines-init c =
    cause_begins (texts_of (entries_at c.args.number c.args.table.now))
    ∙ ap (λ (lines : List (List ℕ)). cause_from lines None) (sym c.new-printed.ensures.left)
