use Rattle.std.proofs.Common.{[], Ok, Err, ℕ, List, subst}
use Rattle.std.proofs.lemmas.Result.{err_from_is_err_and}
use Rattle.redo_device.specs.Sink.{Writes}
use Rattle.redo_json.proofs.FormLemmas.{write_failed}
use Rattle.redo_json.proofs.PendingLemmas.{flushed}
use Rattle.redo_json.proofs.diagnostics.flush.Goals as goal

pub returns-in_err-push_all-clause-wrote : goal.returns-in_err-push_all-clause-wrote
returns-in_err-push_all-clause-wrote g c = λ before text rest so_far.
    let given = err_from_is_err_and c.from_residual.result c.from_residual.ensures.1 in
    rw (given.1, given.2) (write_failed before _ _ text _ rest _ so_far
    (subst (λ (part : List ℕ). Writes (g.W.Sink.written c.args.out.now) (g.W.Sink.written c.push_all.new.out) part (Err _))
    c.deref.ensures.value c.in_err-push_all.ensures))

pub returns-clause-wrote : goal.returns-clause-wrote
returns-clause-wrote g c = λ before text rest so_far.
    flushed before _ _ text _ _ [] rest c.clear.ensures.items so_far
    (subst (λ (part : List ℕ). Writes (g.W.Sink.written c.args.out.now) (g.W.Sink.written c.push_all.new.out) part (Ok tt))
    c.deref.ensures.value c.in_ok-push_all.ensures)
