use Rattle.redo_compare.proofs.LogChangeLemmas.{same-lines}
use Rattle.redo_compare.proofs.laws.log_with_same_lines.Goals as goal

pub returns-clause-new : goal.returns-clause-new
returns-clause-new c = λ earlier logs number other is same. (same-lines earlier logs number other is same).0

pub returns-clause-gone : goal.returns-clause-gone
returns-clause-gone c = λ earlier logs number other is same. (same-lines earlier logs number other is same).1
