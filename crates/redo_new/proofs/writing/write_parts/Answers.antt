use Rattle.std.proofs.Common.{ℕ, suc, take, drop, List, Bor}
use Rattle.std.specs.List.{flat_map}
use Rattle.std.proofs.lemmas.Result.{err_from_is_err_and}
use Rattle.redo_new.proofs.FormLemmas.{one_of, write_failed}
use Rattle.redo_new.proofs.writing.write_parts.Goals as goal

abbrev bytes_of : Bor (List ℕ) → List ℕ
bytes_of part = part.now

pub returns-in_err-push_all : goal.returns-in_err-push_all
returns-in_err-push_all g c =
    let parts = c.args.parts.now in
    let i = c.loop-part.part-index in
    let given = err_from_is_err_and c.from_residual.result c.from_residual.ensures.1 in
    rw (given.1, given.2) (write_failed _ _ _ (flat_map bytes_of parts) _ (flat_map bytes_of (drop (suc i) parts)) _
    (record {
      prefix = flat_map bytes_of (take i parts);
      wrote = c.loop-part.invariant;
      splits = one_of bytes_of parts i _ c.loop-part-test.true;
    }) c.in_err-push_all.ensures)
