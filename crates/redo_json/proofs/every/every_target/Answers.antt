use Rattle.std.proofs.Common.{ℕ, List, ◌++◌, ap, ◌∙◌}
use Rattle.redo_logs.specs.Logs.{targets_of}
use Rattle.redo_json.proofs.EveryLemmas.{all_known}
use Rattle.redo_json.proofs.every.every_target.Goals as goal

pub returns-clause-names : goal.returns-clause-names
returns-clause-names c =
    c.in_ok-push_targets.ensures
    ∙ ap (λ names. names ++ targets_of c.args.table.now)
    (c.in_ok-push_names.ensures ∙ ap (λ (before : List (List ℕ)). before ++ c.args.requested.now) c.new-names.ensures.items)

pub returns-clause-known : goal.returns-clause-known
returns-clause-known c = all_known c.args.table.now c.args.requested.now

pub returns-in_err-push_names-clause-known : goal.returns-in_err-push_names-clause-known
returns-in_err-push_names-clause-known c = all_known c.args.table.now c.args.requested.now

pub returns-in_err-push_targets-clause-known : goal.returns-in_err-push_targets-clause-known
returns-in_err-push_targets-clause-known c = all_known c.args.table.now c.args.requested.now
