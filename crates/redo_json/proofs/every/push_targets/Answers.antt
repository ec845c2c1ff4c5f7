use Rattle.std.proofs.Common.{◌∙◌}
use Rattle.redo_logs.specs.Logs.{targets_of}
use Rattle.redo_json.proofs.EveryLemmas.{one_more}
use Rattle.redo_json.proofs.every.push_targets.Goals as goal

pub loop-number-preserved : goal.loop-number-preserved
loop-number-preserved c =
    c.in_ok-push.ensures.items
    ∙ one_more (targets_of c.args.table.now) c.loop-number.number _ _ _ _ c.loop-number.invariant c.in_ok-copy.ensures c.name.ensures
