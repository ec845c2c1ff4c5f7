use Rattle.redo_trim.proofs.BoundLemmas.{left_size}
use Rattle.redo_trim.proofs.LawLemmas.{keeps_head_and_tail, shows_head_and_tail, three_parts}
use Rattle.redo_trim.proofs.laws.head_and_tail_are_kept.Goals as goal

pub returns-clause-parts : goal.returns-clause-parts
returns-clause-parts c = three_parts

pub returns-clause-shown : goal.returns-clause-shown
returns-clause-shown c = shows_head_and_tail

pub returns-clause-kept : goal.returns-clause-kept
returns-clause-kept c = keeps_head_and_tail

pub returns-clause-bounded : goal.returns-clause-bounded
returns-clause-bounded c = left_size
