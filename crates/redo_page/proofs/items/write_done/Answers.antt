use Rattle.std.proofs.Common.{w32}
use Rattle.std.proofs.lemmas.Int.{to_z-of_z}
use Rattle.redo_page.proofs.WriterLemmas.{wrote_then}
use Rattle.redo_page.proofs.items.write_done.Goals as goal

pub returns : goal.returns
returns g c =
    let passed = to_z-of_z w32 c.args.status c.ranges.status in
    rw (c.position_of_name.ensures, c.bytes.ensures.bytes, passed) at
    (wrote_then c.put.ensures (wrote_then c.write_linked.ensures (wrote_then c.write_exit.ensures c.put-2.ensures)))
