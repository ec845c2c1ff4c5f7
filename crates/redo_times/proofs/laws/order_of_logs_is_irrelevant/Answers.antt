use Rattle.redo_times.proofs.TimesLaws.{order-irrelevant}
use Rattle.redo_times.proofs.laws.order_of_logs_is_irrelevant.Goals as goal

pub returns : goal.returns
returns c = order-irrelevant
