use Rattle.redo_compare.proofs.KindLemmas.{none-since-same}
use Rattle.redo_compare.proofs.laws.same_log_has_nothing_new.Goals as goal

pub returns : goal.returns
returns c = none-since-same
