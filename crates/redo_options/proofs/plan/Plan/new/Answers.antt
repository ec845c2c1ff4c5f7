use Rattle.std.proofs.Common.{rules}
use Rattle.redo_options.proofs.plan.Plan.new.Goals as goal

pub returns-then-senders-lt1-clause-senders : goal.returns-then-senders-lt1-clause-senders
returns-then-senders-lt1-clause-senders c = search rules
