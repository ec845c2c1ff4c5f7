use Rattle.redo_timeline.proofs.CountLemmas.{MostBefore}
use Rattle.redo_timeline.proofs.parallelism.most_at_once.Given as goal

abbrev pub invariant-loop-span : goal.invariant-loop-span
invariant-loop-span l = MostBefore l.spans l.span-index l.most
