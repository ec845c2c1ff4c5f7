use Rattle.std.proofs.Common.{rules}
use Rattle.redo_index.proofs.index.parse_number.Goals as goal

pub returns-in-Some : goal.returns-in-Some
returns-in-Some c = search rules
