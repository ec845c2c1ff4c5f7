use Rattle.std.proofs.Common.{[]}
use Rattle.redo_run.specs.Rendered.{expansion_call}
use Rattle.redo_run.proofs.Results.{some_result}
use Rattle.redo_run.proofs.laws.run_has_a_result.Goals as goal

pub returns : goal.returns
returns c request streams = some_result c.logs_unless_fault.ensures (expansion_call (record { request = request; inputs = [] })) streams
