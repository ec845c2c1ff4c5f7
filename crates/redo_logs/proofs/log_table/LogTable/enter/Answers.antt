use Rattle.std.proofs.Common.{rules, arith}
use Rattle.std.proofs.lemmas.Grind.{common_steps}
use Rattle.redo_logs.proofs.log_table.LogTable.enter.Goals as goal

pub returns-then-is_some-clause-duplicate : goal.returns-then-is_some-clause-duplicate
returns-then-is_some-clause-duplicate c = search rules

pub returns-then-len-eq-MAX_LOGS-clause-full : goal.returns-then-len-eq-MAX_LOGS-clause-full
returns-then-len-eq-MAX_LOGS-clause-full c = grind (arith, common_steps)
