use Rattle.std.proofs.Common.{rules}
use Rattle.redo_line.proofs.record.is_time.Goals as goal

pub returns-then-are_digits : goal.returns-then-are_digits
returns-then-are_digits c = search rules
