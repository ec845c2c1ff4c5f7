use Rattle.std.proofs.Common.{refl}
use Rattle.redo_run.proofs.Results.{same_fault, some_result}
use Rattle.redo_run.proofs.laws.run_as_matches_run.Goals as goal

pub returns-clause-some_result : goal.returns-clause-some_result
returns-clause-some_result c = some_result c.logs_unless_fault.ensures

pub returns-clause-expansion : goal.returns-clause-expansion
returns-clause-expansion c call streams = refl

pub returns-clause-faults : goal.returns-clause-faults
returns-clause-faults c = same_fault
