use Rattle.redo_compare.proofs.KindLemmas.{known-kinds}
use Rattle.redo_compare.proofs.laws.known_source_lines_are_not_new.Goals as goal

pub returns : goal.returns
returns c = known-kinds
