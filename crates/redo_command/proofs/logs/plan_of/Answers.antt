use Rattle.std.proofs.Common.{rules}
use Rattle.redo_command.proofs.logs.plan_of.Goals as goal

pub returns : goal.returns
returns c = search rules
