use Rattle.std.proofs.Common.{true}
use Rattle.redo_line.specs.declared.stream_fault.StreamFault.TheVariants.{Read}
use Rattle.redo_line.specs.Laws.{of_bytes}
use Rattle.redo_line.proofs.FaultLemmas.{failed_read, failed_part}
use Rattle.redo_line.proofs.SourceLemmas.{fault_met}
use Rattle.redo_line.proofs.laws.failed_read_is_the_fault.Goals as goal

pub returns-clause-fault : goal.returns-clause-fault
returns-clause-fault c target max_bytes must_close bytes fine =
    fault_met max_bytes (of_bytes target max_bytes must_close bytes true) Read (failed_read target max_bytes bytes fine)

pub returns-clause-part : goal.returns-clause-part
returns-clause-part c target max_bytes must_close bytes fine = failed_part target max_bytes bytes fine
