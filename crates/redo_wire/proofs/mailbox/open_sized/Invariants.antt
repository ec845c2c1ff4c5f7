use Rattle.redo_wire.proofs.Opening.{AreMade}
use Rattle.redo_wire.proofs.mailbox.open_sized.Given as goal

-- The ends before `number` were made.
abbrev pub invariant-loop-number : goal.invariant-loop-number
invariant-loop-number g l = AreMade l.sender l.receiver g.S.Size.capacity g.S.Size.senders l.number l.pass l.ends.items
