use Rattle.redo_json.proofs.MentionLemmas.{needs_times, own_times}
use Rattle.redo_json.proofs.laws.needs_are_mentioned.Goals as goal

pub returns-clause-others : goal.returns-clause-others
returns-clause-others c = needs_times

pub returns-clause-own : goal.returns-clause-own
returns-clause-own c = own_times
