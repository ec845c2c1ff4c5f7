use Rattle.std.proofs.Common.{drop}
use Rattle.redo_logs.proofs.FirstFault.{Searched}
use Rattle.redo_logs.proofs.log_table.LogTable.first_fault.Given as goal

abbrev pub invariant-loop-log : goal.invariant-loop-log
invariant-loop-log l = Searched l.self l.number (drop l.log-index l.log-items)
