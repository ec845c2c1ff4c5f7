use Rattle.redo_wire.proofs.Leading.{one_meet, one_post, one_split, one_take}
use Rattle.redo_wire.proofs.laws.steps_are_deterministic.Goals as goal

pub returns-clause-adds_end : goal.returns-clause-adds_end
returns-clause-adds_end c = one_split

pub returns-clause-posts : goal.returns-clause-posts
returns-clause-posts c = one_post

pub returns-clause-takes : goal.returns-clause-takes
returns-clause-takes c = one_take

pub returns-clause-meets : goal.returns-clause-meets
returns-clause-meets c = one_meet
