use Rattle.redo_page.proofs.WriterLemmas.{wrote_then}
use Rattle.redo_page.proofs.logs.write_empty_start.Goals as goal

pub returns : goal.returns
returns g c = wrote_then c.put.ensures c.write_heading.ensures
