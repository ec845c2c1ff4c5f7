use Rattle.redo_page.proofs.StackLemmas.{reverse_last}
use Rattle.redo_page.proofs.WriterLemmas.{wrote_then}
use Rattle.redo_page.proofs.tree.TreeForm.end_log.Goals as goal

pub returns-in-Some-clause-wrote : goal.returns-in-Some-clause-wrote
returns-in-Some-clause-wrote g c =
    let popped = reverse_last c.self.inside.logs.items c.pop.new.self.items c.in-Some.log c.in-Some.ensures.items in
    rw (← c.self.view_is, popped) (rw (c.level_in.ensures, c.deref.ensures.value) at
    (wrote_then c.write_end.ensures c.write_log_end.ensures))
