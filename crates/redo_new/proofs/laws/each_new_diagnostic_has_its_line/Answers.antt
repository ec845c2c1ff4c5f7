use Rattle.redo_new.proofs.LawLemmas.{lines_of_new}
use Rattle.redo_new.proofs.laws.each_new_diagnostic_has_its_line.Goals as goal

pub returns : goal.returns
returns c = λ earlier logs number. lines_of_new earlier logs number (c.flags_pick_new.ensures earlier logs number)
