use Rattle.std.proofs.Common.{rules, ◌+◌, drop, subst, sym, arith}
use Rattle.std.proofs.Math.ListN.{drop_of_length-le}
use Rattle.redo_logs.proofs.FirstFault.{Searched, left_at, searched_none, searched_one, found, more, none_found}
use Rattle.redo_logs.proofs.log_table.LogTable.first_fault.Goals as goal

pub loop-log-init : goal.loop-log-init
loop-log-init c =
    subst (Searched c.args.self.now 0) (sym c.deref-log-items.ensures.value) (searched_none _ _ _ c.self.view_is c.self.invariant.table)

pub returns-in-Failed : goal.returns-in-Failed
returns-in-Failed c = found _ _ _ c.loop-log.invariant c.log-item.result (drop (c.loop-log.log-index + 1) c.deref-log-items.result.now)
    (left_at _ c.loop-log.log-index _ (search rules) c.log-item.is) _ c.in-Failed.is

pub overflow_add-number : goal.overflow_add-number
overflow_add-number c = omega (
  arith,
  more _ _ _ c.loop-log.invariant c.log-item.result
      (drop (c.loop-log.log-index + 1) c.deref-log-items.result.now) (left_at _ c.loop-log.log-index _ (search rules) c.log-item.is),
)

pub loop-log-preserved : goal.loop-log-preserved
loop-log-preserved c = searched_one _ _ _ c.loop-log.invariant c.log-item.result
    (drop (c.loop-log.log-index + 1) c.deref-log-items.result.now)
    (left_at _ c.loop-log.log-index _ (search rules) c.log-item.is) c.in_default.not-Failed

pub returns : goal.returns
returns c = none_found _ _ _ c.loop-log.invariant (drop_of_length-le c.deref-log-items.result.now (search rules))
