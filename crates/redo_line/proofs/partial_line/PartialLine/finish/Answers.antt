use Rattle.std.proofs.Common.{rules}
use Rattle.redo_line.proofs.partial_line.PartialLine.finish.Goals as goal

pub returns-else-is_empty : goal.returns-else-is_empty
returns-else-is_empty c = search rules
