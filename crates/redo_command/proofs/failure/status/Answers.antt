use Rattle.std.proofs.Common.{rules}
use Rattle.redo_command.proofs.failure.status.Goals as goal

pub returns-in-Run-Unknown : goal.returns-in-Run-Unknown
returns-in-Run-Unknown c = search rules
