use Rattle.redo_summary.proofs.LawLemmas.{are_of_nodes}
use Rattle.redo_summary.proofs.UsageLemmas.{memory_is_of_nodes}
use Rattle.redo_summary.proofs.laws.positions_are_of_nodes.Goals as goal

pub returns-clause-times : goal.returns-clause-times
returns-clause-times c = are_of_nodes

pub returns-clause-memory : goal.returns-clause-memory
returns-clause-memory c = memory_is_of_nodes
