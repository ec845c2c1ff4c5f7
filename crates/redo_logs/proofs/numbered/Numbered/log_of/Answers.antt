use Rattle.std.proofs.Common.{rules}
use Rattle.redo_logs.proofs.numbered.Numbered.log_of.Goals as goal

pub returns-in-Some : goal.returns-in-Some
returns-in-Some c = search rules
