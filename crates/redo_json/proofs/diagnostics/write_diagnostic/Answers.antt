use Rattle.std.proofs.Common.{◌++◌, ℕ, List, ap, sym, ◌∙◌}
use Rattle.std.proofs.lemmas.Result.{err_from_is_err_and}
use Rattle.redo_diagnostics.specs.Counts.{stored, times_of}
use Rattle.redo_json.specs.Private.Parts.{diagnostic_text}
use Rattle.redo_json.proofs.FormLemmas.{ran_out, write_failed}
use Rattle.redo_json.proofs.PendingLemmas.{joined}
use Rattle.redo_json.proofs.WritingLemmas.{left_is, wrote_more}
use Rattle.redo_json.proofs.diagnostics.write_diagnostic.Goals as goal

pub is_verbatim_diagnostic-requires-clause-of_line : goal.is_verbatim_diagnostic-requires-clause-of_line
is_verbatim_diagnostic-requires-clause-of_line g c = c.requires.of_line

pub is_verbatim_diagnostic-requires-clause-known : goal.is_verbatim_diagnostic-requires-clause-known
is_verbatim_diagnostic-requires-clause-known g c = c.requires.known

pub join_diagnostic-requires-clause-verbatim : goal.join_diagnostic-requires-clause-verbatim
join_diagnostic-requires-clause-verbatim g c = c.is_verbatim_diagnostic.ensures c.if-is_verbatim_diagnostic.true

pub returns-in_err-make_room-clause-wrote : goal.returns-in_err-make_room-clause-wrote
returns-in_err-make_room-clause-wrote g c = λ keys are before text rest so_far.
    let given = err_from_is_err_and c.from_residual.result c.from_residual.ensures.1 in
    rw (given.1, given.2) (c.in_err-make_room.ensures before text _ so_far)

pub returns-in_err-join_diagnostic-clause-wrote : goal.returns-in_err-join_diagnostic-clause-wrote
returns-in_err-join_diagnostic-clause-wrote g c = λ keys are before text rest so_far.
    let given = err_from_is_err_and c.from_residual-in_err-join_diagnostic.result c.from_residual-in_err-join_diagnostic.ensures.1 in
    rw (given.1, given.2) (ran_out _ _ _ _ (c.in_ok-make_room.ensures before text _ so_far))

pub returns-then-is_verbatim_diagnostic-clause-wrote : goal.returns-then-is_verbatim_diagnostic-clause-wrote
returns-then-is_verbatim_diagnostic-clause-wrote g c = λ keys are before text rest so_far.
    joined before _ text _ _ _ rest (c.in_ok-join_diagnostic.ensures.appended keys are) (c.in_ok-make_room.ensures before text _ so_far)

pub returns-in_err-bytes-clause-wrote : goal.returns-in_err-bytes-clause-wrote
returns-in_err-bytes-clause-wrote g c = λ keys are before text rest so_far.
    let given = err_from_is_err_and c.from_residual-in_err-bytes.result c.from_residual-in_err-bytes.ensures.1 in
    rw (given.1, given.2) (ran_out _ _ _ _ so_far)

pub returns-in_err-nth-clause-wrote : goal.returns-in_err-nth-clause-wrote
returns-in_err-nth-clause-wrote g c = λ keys are before text rest so_far.
    let given = err_from_is_err_and c.from_residual-in_err-nth.result c.from_residual-in_err-nth.ensures.1 in
    rw (given.1, given.2) (ran_out _ _ _ _ so_far)

pub returns-in_err-flush-clause-wrote : goal.returns-in_err-flush-clause-wrote
returns-in_err-flush-clause-wrote g c = λ keys are before text rest so_far.
    let given = err_from_is_err_and c.from_residual-in_err-flush.result c.from_residual-in_err-flush.ensures.1 in
    rw (given.1, given.2) (c.in_err-flush.ensures.wrote before text _ so_far)

pub returns-in_err-write_any_diagnostic-clause-wrote : goal.returns-in_err-write_any_diagnostic-clause-wrote
returns-in_err-write_any_diagnostic-clause-wrote g c = λ keys are before text rest so_far.
    let value = c.args.diagnostic.now in
    let nth = c.in_ok-nth.ensures.before keys are ∙ ap (λ (k : List ℕ). stored (times_of k keys)) c.requires.key in
    let part : (n : ℕ) → List ℕ = λ n.
    diagnostic_text c.args.is_first (record { line = c.args.position; value = value; nth = n }, c.args.new) in
    let given = err_from_is_err_and c.from_residual-in_err-write_any_diagnostic.result
    c.from_residual-in_err-write_any_diagnostic.ensures.1 in
    rw (given.1, given.2) (write_failed before _ _ text (part c.in_ok-nth.nth) rest _
    (left_is before _ text _ _
    (ap (λ (l : List ℕ). l ++ (part (stored (times_of value.key keys)) ++ rest)) c.in_ok-flush.ensures.empty
    ∙ ap (λ (n : ℕ). part n ++ rest) (sym nth))
    (c.in_ok-flush.ensures.wrote before text _ so_far))
    c.in_err-write_any_diagnostic.ensures)

pub returns-clause-wrote : goal.returns-clause-wrote
returns-clause-wrote g c = λ keys are before text rest so_far.
    let value = c.args.diagnostic.now in
    let nth = c.in_ok-nth.ensures.before keys are ∙ ap (λ (k : List ℕ). stored (times_of k keys)) c.requires.key in
    let part : (n : ℕ) → List ℕ = λ n.
    diagnostic_text c.args.is_first (record { line = c.args.position; value = value; nth = n }, c.args.new) in
    left_is before _ text _ _ (ap (λ (l : List ℕ). l ++ rest) (sym c.in_ok-flush.ensures.empty))
    (wrote_more before _ _ text (part c.in_ok-nth.nth) rest
    (left_is before _ text _ _
    (ap (λ (l : List ℕ). l ++ (part (stored (times_of value.key keys)) ++ rest)) c.in_ok-flush.ensures.empty
    ∙ ap (λ (n : ℕ). part n ++ rest) (sym nth))
    (c.in_ok-flush.ensures.wrote before text _ so_far))
    c.in_ok-write_any_diagnostic.ensures)
