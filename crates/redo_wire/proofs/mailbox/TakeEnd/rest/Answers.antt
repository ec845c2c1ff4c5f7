use Rattle.std.proofs.Common.{arith}
use Rattle.redo_wire.proofs.Knowing.{gets_at, taking}
use Rattle.redo_wire.proofs.mailbox.TakeEnd.rest.Goals as goal

pub try_recv_as-requires-clause-rule : goal.try_recv_as-requires-clause-rule
try_recv_as-requires-clause-rule g c = gets_at _ _ _ _ _ _ _ c.self.invariant.view_is

pub returns-clause-taken : goal.returns-clause-taken
returns-clause-taken g c = grind (arith, taking)
