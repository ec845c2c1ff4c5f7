use Rattle.std.proofs.Common.{arith}
use Rattle.redo_wire.proofs.Counting.{left_count}
use Rattle.redo_wire.proofs.laws.room_for_any.Goals as goal

pub returns : goal.returns
returns c end items apart left =
    let count = left_count end.taken items end.met apart left.0 left.1 in
    (λ room. omega (arith, room, count), λ fewer. omega (arith, fewer, count))
