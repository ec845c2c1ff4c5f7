use Rattle.std.proofs.Common.{rules}
use Rattle.redo_line.proofs.line.is_candidate.Goals as goal

pub returns-then-ended : goal.returns-then-ended
returns-then-ended c = search rules
