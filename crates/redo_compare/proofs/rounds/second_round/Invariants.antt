use Rattle.std.proofs.Common.{take}
use Rattle.redo_compare.specs.Private.Rounding.{RanSecond}
use Rattle.redo_compare.proofs.rounds.second_round.Given as goal

abbrev pub invariant-loop-i : goal.invariant-loop-i
invariant-loop-i l = RanSecond l.fn.by_key l.by_key (take l.i l.now) (take l.i l.unknown) l.new.items
