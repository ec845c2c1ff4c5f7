use Rattle.std.proofs.Common.{◌∷◌, [], ◌++◌, ap, ◌∙◌}
use Rattle.std.proofs.lemmas.Result.{err_from_is_err_and}
use Rattle.redo_gather.proofs.one_stream.EntriesEntrySink.take_last.Goals as goal

pub returns-in_err-push-clause-unchanged_on_err : goal.returns-in_err-push-clause-unchanged_on_err
returns-in_err-push-clause-unchanged_on_err c before earlier taken =
    let given = err_from_is_err_and c.from_residual.result c.from_residual.ensures.1 in
    rw (given.1) (c.in_err-push.ensures.unchanged_on_err ∙ taken)

pub returns-clause-taken : goal.returns-clause-taken
returns-clause-taken c before earlier taken = c.in_ok-push.ensures.pushed ∙ ap (λ es. es ++ c.args.last ∷ []) taken
