use Rattle.std.proofs.Common.{drop}
use Rattle.redo_timeline.proofs.BarLemmas.{Drafted}
use Rattle.redo_timeline.proofs.bars.add_bars.Given as goal

abbrev pub invariant-loop-span : goal.invariant-loop-span
invariant-loop-span l = Drafted l.window l.lane l.fn.bars.items l.spans (drop l.span-index l.rest) l.bars.items l.draft
