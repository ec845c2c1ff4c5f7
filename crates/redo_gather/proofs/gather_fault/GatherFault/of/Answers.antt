use Rattle.std.proofs.Common.{rules}
use Rattle.redo_gather.proofs.gather_fault.GatherFault.of.Goals as goal

pub returns-in-OutOfMemory : goal.returns-in-OutOfMemory
returns-in-OutOfMemory c = search rules
