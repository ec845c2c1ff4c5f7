use Rattle.std.proofs.Common.{take}
use Rattle.redo_compare.specs.Private.Remaining.{CountBySource}
use Rattle.redo_compare.proofs.remaining.Remaining.by_source.Given as goal

abbrev pub invariant-loop-one : goal.invariant-loop-one
invariant-loop-one l = CountBySource l.remaining (take l.one-index l.occurrences)
