use Rattle.std.proofs.Common.{◌≡◌, drop}
use Rattle.redo_page.proofs.ErrorLemmas.{are_blank}
use Rattle.redo_page.proofs.cause.is_blank.Given as goal

abbrev pub invariant-loop-at : goal.invariant-loop-at
invariant-loop-at l = are_blank 0 l.line ≡ are_blank l.skipped (drop l.at l.line)
