use Rattle.std.proofs.Common.{[], ◌∷◌, rules, refl, ap, ◌∙◌}
use Rattle.std.proofs.lemmas.List.{append-nil}
use Rattle.std.proofs.lemmas.Option.{slice_get_read}
use Rattle.std.proofs.lemmas.Result.{MatchResult-from_err}
use Rattle.redo_logs.specs.declared.log_state.LogState.TheVariants.{Running}
use Rattle.redo_logs.specs.declared.log_table.Log.{Log as Stored}
use Rattle.redo_logs.specs.Logs.{update_log, with_entry}
use Rattle.redo_logs.specs.Private.Store.{denotes}
use Rattle.redo_logs.proofs.ChangedLemmas.{update_log-none}
use Rattle.redo_logs.proofs.Storing.{changed_stored, entries_log, entries_log_within, grown_stored, has_state, logs_grown, same_log, same_log_within, written}
use Rattle.redo_logs.proofs.log_table.LogTable.add.Goals as goal

pub invariant_of-self : goal.invariant_of-self
invariant_of-self c = grown_stored _ _ c.in_err-record.ensures.extends _ _ c.self.invariant

pub returns-in_err-record-clause-unchanged_on_err : goal.returns-in_err-record-clause-unchanged_on_err
returns-in_err-record-clause-unchanged_on_err c =
    MatchResult-from_err c.from_residual.result _ _ c.from_residual.ensures.0
    (λ fault. logs_grown _ _ c.in_err-record.ensures.extends _ c.self.invariant.within ∙ c.self.view_is)

pub index_mut-requires : goal.index_mut-requires
index_mut-requires c =
    let below = has_state _ _ _ c.args.stream Running c.self.view_is c.requires.running in
    search (rules, below)

pub invariant_of-self-in_err-push : goal.invariant_of-self-in_err-push
invariant_of-self-in_err-push c =
    let old = c.index_mut.result.now in
    let new : Stored = record { name = old.name; records = c.push.new.self; state = old.state } in
    let below = has_state _ _ _ c.args.stream Running c.self.view_is c.requires.running in
    changed_stored c.store.new.self c.self.inside.logs.items c.self.inside.log_of_name.items c.args.stream old new (λ log. log)
    (λ log. refl)
    (slice_get_read _ _ c.args.stream _ refl below c.index_mut.ensures.value)
    (same_log _ old new refl c.in_err-push.ensures.unchanged_on_err refl)
    (same_log_within _ old new refl c.in_err-push.ensures.unchanged_on_err)
    (grown_stored _ _ c.in_ok-record.ensures.extends _ _ c.self.invariant)

pub returns-in_err-push-clause-unchanged_on_err : goal.returns-in_err-push-clause-unchanged_on_err
returns-in_err-push-clause-unchanged_on_err c =
    let old = c.index_mut.result.now in
    let new : Stored = record { name = old.name; records = c.push.new.self; state = old.state } in
    let below = has_state _ _ _ c.args.stream Running c.self.view_is c.requires.running in
    MatchResult-from_err c.from_residual-in_err-push.result _ _ c.from_residual-in_err-push.ensures.0
    (λ fault. written c.store.new.self c.self.inside.logs.items c.args.stream old new (λ log. log)
    (slice_get_read _ _ c.args.stream _ refl below c.index_mut.ensures.value)
    (same_log _ old new refl c.in_err-push.ensures.unchanged_on_err refl)
    ∙ update_log-none c.args.stream _ ∙ logs_grown _ _ c.in_ok-record.ensures.extends _ c.self.invariant.within ∙ c.self.view_is)

pub invariant_of-self-2 : goal.invariant_of-self-2
invariant_of-self-2 c =
    let old = c.index_mut.result.now in
    let new : Stored = record { name = old.name; records = c.push.new.self; state = old.state } in
    let below = has_state _ _ _ c.args.stream Running c.self.view_is c.requires.running in
    changed_stored c.store.new.self c.self.inside.logs.items c.self.inside.log_of_name.items c.args.stream old new (with_entry c.args.entry)
    (λ log. refl)
    (slice_get_read _ _ c.args.stream _ refl below c.index_mut.ensures.value)
    (entries_log _ old new refl (c.in_ok-record.record ∷ []) c.in_ok-push.ensures.pushed (c.args.entry ∷ [])
    (append-nil (denotes c.store.new.self c.in_ok-record.record) ∙ c.in_ok-record.ensures.denotes) refl)
    (entries_log_within _ old new refl (c.in_ok-record.record ∷ []) c.in_ok-push.ensures.pushed (c.in_ok-record.ensures.within, tt))
    (grown_stored _ _ c.in_ok-record.ensures.extends _ _ c.self.invariant)

pub returns-clause-added : goal.returns-clause-added
returns-clause-added c =
    let old = c.index_mut.result.now in
    let new : Stored = record { name = old.name; records = c.push.new.self; state = old.state } in
    let below = has_state _ _ _ c.args.stream Running c.self.view_is c.requires.running in
    written c.store.new.self c.self.inside.logs.items c.args.stream old new (with_entry c.args.entry)
    (slice_get_read _ _ c.args.stream _ refl below c.index_mut.ensures.value)
    (entries_log _ old new refl (c.in_ok-record.record ∷ []) c.in_ok-push.ensures.pushed (c.args.entry ∷ [])
    (append-nil (denotes c.store.new.self c.in_ok-record.record) ∙ c.in_ok-record.ensures.denotes) refl)
    ∙ ap (update_log c.args.stream (with_entry c.args.entry))
    (logs_grown _ _ c.in_ok-record.ensures.extends _ c.self.invariant.within ∙ c.self.view_is)
