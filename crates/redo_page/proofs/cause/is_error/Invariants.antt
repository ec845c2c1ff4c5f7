use Rattle.std.proofs.Common.{◌≡◌, drop, false}
use Rattle.redo_page.specs.Errors.{has_error}
use Rattle.redo_page.proofs.cause.is_error.Given as goal

abbrev pub invariant-loop-at : goal.invariant-loop-at
invariant-loop-at l = has_error 0 false l.line ≡ has_error l.skipped l.in_word (drop l.at l.line)
