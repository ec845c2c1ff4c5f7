use Rattle.std.proofs.Common.{[]}
use Rattle.redo_diagnostics.proofs.CountLemmas.{distinct}
use Rattle.redo_diagnostics.proofs.laws.ids_are_distinct.Goals as goal

pub returns : goal.returns
returns c = distinct []
