use Rattle.redo_summary.proofs.LawLemmas.{alone_are, longest_are, warned_are}
use Rattle.redo_summary.proofs.UsageLemmas.{memory_is_of_recipes}
use Rattle.redo_summary.proofs.laws.ranks_have_values_of_targets.Goals as goal

pub returns-clause-longest : goal.returns-clause-longest
returns-clause-longest c = longest_are

pub returns-clause-warned : goal.returns-clause-warned
returns-clause-warned c = warned_are

pub returns-clause-memory : goal.returns-clause-memory
returns-clause-memory c = memory_is_of_recipes

pub returns-clause-alone : goal.returns-clause-alone
returns-clause-alone c = alone_are
