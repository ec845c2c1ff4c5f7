use Rattle.std.proofs.Common.{◌≡◌, Some, slice_get, refl, sym, ap, ◌∙◌, subst}
use Rattle.std.specs.Option.{option_map}
use Rattle.std.proofs.lemmas.Bool.{ltb-true}
use Rattle.std.proofs.lemmas.Option.{slice_get_read}
use Rattle.redo_logs.specs.Logs.{entry_at}
use Rattle.redo_logs.specs.EntryRef.{entry_value}
use Rattle.redo_logs.specs.Private.Stored.{IsLogWithin}
use Rattle.redo_logs.proofs.TextLines.{entry_found, found_within, none_of, stored_at}
use Rattle.redo_logs.proofs.log_table.LogTable.entry.Goals as goal

pub returns-in_err-one-clause-entry : goal.returns-in_err-one-clause-entry
returns-in_err-one-clause-entry c =
    let logs = c.self.inside.logs.items in
    let parts = c.self.inside.store in
    let at = subst (λ ls. slice_get ls c.args.i ≡ Some c.in_ok-log.log.now) c.deref.ensures.value
    (slice_get_read c.deref.result.now _ c.args.i _ refl (ltb-true _ _ (sym c.in_ok-log.ensures.lookup.0)) c.in_ok-log.ensures.lookup.1) in
    let within = (stored_at (IsLogWithin parts) logs c.args.i c.in_ok-log.log.now c.self.invariant.within at).records in
    ap (option_map (entry_value)) c.from_residual-in_err-one.ensures
    ∙ sym (none_of parts logs c.args.i c.args.k c.in_ok-log.log.now at within c.in_err-one.ensures.none)
    ∙ ap (entry_at c.args.i c.args.k) c.self.view_is

pub load-requires-clause-within : goal.load-requires-clause-within
load-requires-clause-within c =
    let logs = c.self.inside.logs.items in
    let parts = c.self.inside.store in
    let at = subst (λ ls. slice_get ls c.args.i ≡ Some c.in_ok-log.log.now) c.deref.ensures.value
    (slice_get_read c.deref.result.now _ c.args.i _ refl (ltb-true _ _ (sym c.in_ok-log.ensures.lookup.0)) c.in_ok-log.ensures.lookup.1) in
    let within = (stored_at (IsLogWithin parts) logs c.args.i c.in_ok-log.log.now c.self.invariant.within at).records in
    found_within parts c.in_ok-log.log.now.records c.args.k c.in_ok-one.one c.in_ok-one.place within c.in_ok-one.ensures.found

pub returns-clause-entry : goal.returns-clause-entry
returns-clause-entry c =
    let logs = c.self.inside.logs.items in
    let parts = c.self.inside.store in
    let at = subst (λ ls. slice_get ls c.args.i ≡ Some c.in_ok-log.log.now) c.deref.ensures.value
    (slice_get_read c.deref.result.now _ c.args.i _ refl (ltb-true _ _ (sym c.in_ok-log.ensures.lookup.0)) c.in_ok-log.ensures.lookup.1) in
    let within = (stored_at (IsLogWithin parts) logs c.args.i c.in_ok-log.log.now c.self.invariant.within at).records in
    sym (entry_found parts logs c.args.i c.args.k c.in_ok-log.log.now at c.in_ok-one.one c.in_ok-one.place within c.in_ok-one.ensures.found
    ∙ c.load.ensures)
    ∙ ap (entry_at c.args.i c.args.k) c.self.view_is
