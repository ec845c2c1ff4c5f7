use Rattle.redo_line.proofs.FirstPlace.{parted_at, parted_nowhere}
use Rattle.redo_line.proofs.split_once.split_at_first.Goals as goal

pub returns-in-Some-clause-some : goal.returns-in-Some-clause-some
returns-in-Some-clause-some c = parted_at c.args.separator c.args.bytes.now c.in-Some.position c.in-Some.ensures

pub returns-in-None-clause-none : goal.returns-in-None-clause-none
returns-in-None-clause-none c = parted_nowhere c.args.separator c.args.bytes.now c.in-None.ensures
