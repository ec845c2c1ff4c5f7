use Rattle.redo_name.proofs.NameLemmas.{normal_is_normal}
use Rattle.redo_name.proofs.laws.normal_form_is_idempotent.Goals as goal

pub returns : goal.returns
returns c = normal_is_normal
