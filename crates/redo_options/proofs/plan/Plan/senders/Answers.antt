use Rattle.std.proofs.Common.{rules}
use Rattle.redo_options.proofs.plan.Plan.senders.Goals as goal

pub returns-clause-value : goal.returns-clause-value
returns-clause-value c = search rules
