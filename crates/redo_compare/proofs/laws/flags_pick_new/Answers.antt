use Rattle.redo_compare.proofs.LogChangeLemmas.{picks-new}
use Rattle.redo_compare.proofs.laws.flags_pick_new.Goals as goal

pub returns : goal.returns
returns c = picks-new
