use Rattle.redo_json.proofs.NewLemmas.{none_flagged, nothing_compared}
use Rattle.redo_json.proofs.laws.nothing_is_compared_without_baseline.Goals as goal

pub returns-clause-changes : goal.returns-clause-changes
returns-clause-changes c = nothing_compared

pub returns-clause-diagnostics : goal.returns-clause-diagnostics
returns-clause-diagnostics c = none_flagged
