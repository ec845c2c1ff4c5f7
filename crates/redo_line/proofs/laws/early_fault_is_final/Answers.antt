use Rattle.std.proofs.Common.{◌++◌}
use Rattle.redo_line.specs.Laws.{of_bytes}
use Rattle.redo_line.proofs.FaultLemmas.{early_fault, early_part, not_a_read}
use Rattle.redo_line.proofs.SourceLemmas.{fault_met, met_early}
use Rattle.redo_line.proofs.laws.early_fault_is_final.Goals as goal

pub returns-clause-fault : goal.returns-clause-fault
returns-clause-fault c target max_bytes must_close bytes more failed fails fault met is =
    fault_met max_bytes (of_bytes target max_bytes must_close (bytes ++ more) fails) fault
    (early_fault target max_bytes bytes more failed fails fault (not_a_read fault met)
    (met_early max_bytes (of_bytes target max_bytes must_close bytes failed) fault met is))

pub returns-clause-part : goal.returns-clause-part
returns-clause-part c target max_bytes must_close bytes more failed fails fault met is =
    early_part target max_bytes bytes more failed fails fault (not_a_read fault met)
    (met_early max_bytes (of_bytes target max_bytes must_close bytes failed) fault met is)
