use Rattle.redo_line.proofs.LineLemmas.{ended-append, rest-append}
use Rattle.redo_line.proofs.laws.splitting_is_incremental.Goals as goal

pub returns-clause-lines : goal.returns-clause-lines
returns-clause-lines c = ended-append

pub returns-clause-last : goal.returns-clause-last
returns-clause-last c = rest-append
