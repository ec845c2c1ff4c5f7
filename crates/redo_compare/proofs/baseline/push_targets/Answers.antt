use Rattle.redo_logs.specs.Logs.{targets_of}
use Rattle.redo_compare.proofs.BaselineLemmas.{one_more}
use Rattle.redo_compare.proofs.baseline.push_targets.Goals as goal

pub loop-number-preserved : goal.loop-number-preserved
loop-number-preserved c =
    one_more c.args.table.now (targets_of c.args.table.now) c.loop-number.number c.args.names.now.items c.loop-number.names.items
    c.push_if_known.new.names.items c.name.result.now c.loop-number.invariant c.in_ok-push_if_known.ensures c.name.ensures
