use Rattle.redo_summary.proofs.LawLemmas.{are_split}
use Rattle.redo_summary.proofs.laws.spans_are_callers_or_recipes.Goals as goal

pub returns : goal.returns
returns c = are_split
