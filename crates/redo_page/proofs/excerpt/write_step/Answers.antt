use Rattle.redo_page.proofs.WriterLemmas.{wrote_then}
use Rattle.redo_page.proofs.excerpt.write_step.Goals as goal

pub returns : goal.returns
returns g c = wrote_then c.write_change.ensures c.write_shown.ensures
