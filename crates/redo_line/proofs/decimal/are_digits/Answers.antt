use Rattle.std.proofs.Common.{rules}
use Rattle.redo_line.proofs.decimal.are_digits.Goals as goal

pub returns-then-bytes-max_digits : goal.returns-then-bytes-max_digits
returns-then-bytes-max_digits c = search rules
