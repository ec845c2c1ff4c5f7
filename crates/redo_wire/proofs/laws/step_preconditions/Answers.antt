use Rattle.redo_wire.proofs.Leading.{nothing_queued, posts_while_there}
use Rattle.redo_wire.proofs.laws.step_preconditions.Goals as goal

pub returns-clause-empty : goal.returns-clause-empty
returns-clause-empty c = nothing_queued

pub returns-clause-posts : goal.returns-clause-posts
returns-clause-posts c = posts_while_there
