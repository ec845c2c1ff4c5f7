use Rattle.redo_page.proofs.WriterLemmas.{wrote_then}
use Rattle.redo_page.proofs.logs.write_flat_end.Goals as goal

pub returns : goal.returns
returns g c = rw (c.target.ensures, c.node.ensures) at (wrote_then c.put.ensures (wrote_then c.write_name.ensures c.put-2.ensures))
