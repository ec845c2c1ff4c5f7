use Rattle.std.proofs.Common.{take}
use Rattle.redo_compare.specs.Private.Rounding.{RanFirst}
use Rattle.redo_compare.proofs.rounds.first_round.Given as goal

abbrev pub invariant-loop-one : goal.invariant-loop-one
invariant-loop-one l = RanFirst l.fn.by_source l.by_source l.fn.by_key l.by_key (take l.one-index l.now) l.unknown.items
