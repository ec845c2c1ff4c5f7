use Rattle.redo_compare.proofs.BaselineLemmas.{all_known, both-known}
use Rattle.redo_compare.proofs.baseline.baseline_targets.Goals as goal

pub returns-clause-names : goal.returns-clause-names
returns-clause-names c =
    both-known c.args.earlier.now c.args.requested.now c.new-names.result.items c.push_known.new.names.items c.push_targets.new.names.items
    c.new-names.ensures.items c.in_ok-push_known.ensures c.in_ok-push_targets.ensures

pub returns-clause-known : goal.returns-clause-known
returns-clause-known c = all_known c.args.earlier.now c.args.requested.now

pub returns-in_err-push_known-clause-known : goal.returns-in_err-push_known-clause-known
returns-in_err-push_known-clause-known c = all_known c.args.earlier.now c.args.requested.now

pub returns-in_err-push_targets-clause-known : goal.returns-in_err-push_targets-clause-known
returns-in_err-push_targets-clause-known c = all_known c.args.earlier.now c.args.requested.now
