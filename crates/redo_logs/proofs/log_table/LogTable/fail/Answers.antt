use Rattle.std.proofs.Common.{refl, ap, ◌∙◌}
use Rattle.std.proofs.lemmas.Option.{slice_get_read}
use Rattle.redo_logs.specs.declared.log_state.LogState.TheVariants.{Running, Failed}
use Rattle.redo_logs.specs.Logs.{update_log, with_state}
use Rattle.redo_logs.proofs.Storing.{changed_stored, has_state, written}
use Rattle.redo_logs.proofs.log_table.LogTable.fail.Goals as goal

pub invariant_of-self : goal.invariant_of-self
invariant_of-self c =
    let kept = c.self.inside.store in
    let below = has_state _ _ _ c.args.stream Running c.self.view_is c.requires.running in
    changed_stored _ c.self.inside.logs.items _ c.args.stream _ _ (with_state (Failed c.args.fault)) (λ log. refl)
    (slice_get_read _ _ c.args.stream _ refl below c.index_mut.ensures.value) refl
    (λ within. record { name = within.name; records = within.records }) c.self.invariant

pub returns : goal.returns
returns c =
    let below = has_state _ _ _ c.args.stream Running c.self.view_is c.requires.running in
    written _ c.self.inside.logs.items c.args.stream _ _ (with_state (Failed c.args.fault))
    (slice_get_read _ _ c.args.stream _ refl below c.index_mut.ensures.value) refl
    ∙ ap (update_log c.args.stream (with_state (Failed c.args.fault))) c.self.view_is
