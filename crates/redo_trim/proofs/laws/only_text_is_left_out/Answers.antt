use Rattle.redo_trim.proofs.LawLemmas.{keeps_others}
use Rattle.redo_trim.proofs.laws.only_text_is_left_out.Goals as goal

pub returns : goal.returns
returns c = keeps_others
