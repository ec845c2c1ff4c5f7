use Rattle.redo_gather.proofs.EnteringLemmas.{Entered}
use Rattle.redo_gather.proofs.storing.enter_names.Given as goal

abbrev pub invariant-loop-name : goal.invariant-loop-name
invariant-loop-name l = Entered l.fn.names.items l.name-iterator.rest.items l.table
