use Rattle.redo_page.proofs.WriterLemmas.{wrote_then}
use Rattle.redo_page.proofs.logs.write_flat_start.Goals as goal

pub returns : goal.returns
returns g c = wrote_then c.put.ensures (wrote_then c.write_heading.ensures (wrote_then c.write_depth.ensures c.write_moved.ensures))
