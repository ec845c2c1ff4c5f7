use Rattle.redo_wire.proofs.Leading.{can_find_nothing, can_meet, can_post, can_split, can_take}
use Rattle.redo_wire.proofs.laws.steps_exist.Goals as goal

pub returns-clause-adds_end : goal.returns-clause-adds_end
returns-clause-adds_end c = can_split

pub returns-clause-posts : goal.returns-clause-posts
returns-clause-posts c = can_post

pub returns-clause-takes : goal.returns-clause-takes
returns-clause-takes c = can_take

pub returns-clause-empty : goal.returns-clause-empty
returns-clause-empty c = can_find_nothing

pub returns-clause-meets : goal.returns-clause-meets
returns-clause-meets c = can_meet
