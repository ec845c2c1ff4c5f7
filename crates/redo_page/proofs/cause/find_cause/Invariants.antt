use Rattle.std.proofs.Common.{◌≡◌, length}
use Rattle.std.specs.Option.{option_copied}
use Rattle.redo_outline.specs.Facts.{entries_at, texts_of}
use Rattle.redo_page.specs.Errors.{cause_of}
use Rattle.redo_page.proofs.CauseLemmas.{cause_from}
use Rattle.redo_page.proofs.cause.find_cause.Given as goal

abbrev pub invariant-lines : goal.invariant-lines
invariant-lines l = cause_of (texts_of (entries_at l.number l.table)) ≡ cause_from l.printed.left (option_copied l.last)

abbrev pub decreases-lines : goal.decreases-lines
decreases-lines l = length l.printed.left
