use Rattle.redo_page.proofs.WriterLemmas.{wrote_then}
use Rattle.redo_page.proofs.logs.write_nested_start.Goals as goal

pub returns : goal.returns
returns g c = rw c.details_markup.ensures at
    (wrote_then c.put.ensures (wrote_then c.write_heading.ensures (wrote_then c.put-2.ensures c.write_moved.ensures)))
