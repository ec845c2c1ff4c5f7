use Rattle.redo_page.proofs.WriterLemmas.{wrote_then}
use Rattle.redo_page.proofs.logs.write_heading.Goals as goal

pub returns-in-Requested : goal.returns-in-Requested
returns-in-Requested g c = rw c.in-Requested.is
    (rw (c.bytes.ensures.bytes, c.node.ensures) at (wrote_then c.write_name.ensures c.write_facts.ensures))

pub returns-in-Mentioned : goal.returns-in-Mentioned
returns-in-Mentioned g c = rw c.in-Mentioned.is
    (rw (c.bytes-in-Mentioned.ensures.bytes, c.node-in-Mentioned.ensures) at
    (wrote_then c.write_name-in-Mentioned.ensures (wrote_then c.write_how.ensures c.write_facts-in-Mentioned.ensures)))
