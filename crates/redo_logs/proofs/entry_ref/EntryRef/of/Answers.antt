use Rattle.std.proofs.Common.{rules}
use Rattle.redo_logs.proofs.entry_ref.EntryRef.of.Goals as goal

pub returns-in-Note : goal.returns-in-Note
returns-in-Note c = search rules
