use Rattle.redo_page.proofs.WriterLemmas.{wrote_then}
use Rattle.redo_page.proofs.items.write_mention.Goals as goal

pub returns : goal.returns
returns g c = rw c.opening_position.ensures at
    (wrote_then c.put.ensures (wrote_then c.write_linked.ensures (wrote_then c.write_how.ensures c.put-2.ensures)))
