use Rattle.redo_line.proofs.Numbers.{Read}
use Rattle.redo_line.proofs.decimal.number.Given as goal

abbrev pub invariant-loop-digit : goal.invariant-loop-digit
invariant-loop-digit l = Read l.digits l.digit-index l.number
