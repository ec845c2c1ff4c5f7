use Rattle.redo_command.proofs.SuggestionLemmas.{all_ending, all_listed, at_most_five}
use Rattle.redo_command.proofs.laws.suggestions_are_listed_targets.Goals as goal

pub returns-clause-listed : goal.returns-clause-listed
returns-clause-listed c = all_listed

pub returns-clause-ending : goal.returns-clause-ending
returns-clause-ending c = all_ending

pub returns-clause-count : goal.returns-clause-count
returns-clause-count c = at_most_five
