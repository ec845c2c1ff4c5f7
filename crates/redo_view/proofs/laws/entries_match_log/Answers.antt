use Rattle.redo_view.proofs.TargetEntries.{have_their_entries, none_unlisted}
use Rattle.redo_view.proofs.laws.entries_match_log.Goals as goal

pub returns-clause-with_log : goal.returns-clause-with_log
returns-clause-with_log c = have_their_entries

pub returns-clause-without_log : goal.returns-clause-without_log
returns-clause-without_log c = none_unlisted
