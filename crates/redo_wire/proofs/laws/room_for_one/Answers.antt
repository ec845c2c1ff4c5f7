use Rattle.std.proofs.Common.{arith}
use Rattle.redo_wire.proofs.Counting.{none_left, nothing_left}
use Rattle.redo_wire.proofs.laws.room_for_one.Goals as goal

pub returns-clause-met_all_taken : goal.returns-clause-met_all_taken
returns-clause-met_all_taken c end one room fronts = nothing_left end.taken end.met (omega (arith, room, one)) fronts

pub returns-clause-leaves_room : goal.returns-clause-leaves_room
returns-clause-leaves_room c end one whole = omega (arith, none_left end.taken end.met whole, one)
