use Rattle.std.proofs.Common.{take}
use Rattle.redo_compare.specs.Private.Remaining.{CountByKey}
use Rattle.redo_compare.proofs.remaining.Remaining.by_key.Given as goal

abbrev pub invariant-loop-one : goal.invariant-loop-one
invariant-loop-one l = CountByKey l.remaining (take l.one-index l.occurrences)
