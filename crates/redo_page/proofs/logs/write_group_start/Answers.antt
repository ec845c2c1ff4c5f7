use Rattle.redo_page.proofs.WriterLemmas.{wrote_then}
use Rattle.redo_page.proofs.logs.write_group_start.Goals as goal

pub returns-in-Text : goal.returns-in-Text
returns-in-Text g c = rw c.in-Text.is
    (rw (c.group_size-in-Text.ensures, c.in-Text.is) at (wrote_then c.write_end.ensures c.write_group-in-Text.ensures))
