use Rattle.redo_logs.proofs.Keeping.{grows_none}
use Rattle.redo_logs.proofs.store.Store.store.Goals as goal

pub returns-in-Closing-clause-extends : goal.returns-in-Closing-clause-extends
returns-in-Closing-clause-extends c = grows_none _
