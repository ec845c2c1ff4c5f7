use Rattle.std.proofs.Common.{arith}
use Rattle.redo_wire.proofs.Knowing.{gets_at, taking}
use Rattle.redo_wire.proofs.mailbox.TakeEnd.take.Goals as goal

pub recv_as-requires-clause-rule : goal.recv_as-requires-clause-rule
recv_as-requires-clause-rule g c = gets_at _ _ _ _ _ _ _ c.self.invariant.view_is

pub returns-clause-taken : goal.returns-clause-taken
returns-clause-taken g c = grind (arith, taking)
