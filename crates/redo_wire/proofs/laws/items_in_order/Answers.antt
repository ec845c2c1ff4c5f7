use Rattle.redo_wire.proofs.Steps.{keeps_order, keeps_taken}
use Rattle.redo_wire.proofs.laws.items_in_order.Goals as goal

pub returns-clause-order : goal.returns-clause-order
returns-clause-order c = keeps_order

pub returns-clause-taken : goal.returns-clause-taken
returns-clause-taken c = keeps_taken
