use Rattle.std.proofs.Common.{Some, refl, sym, ap, ◌∙◌}
use Rattle.std.specs.Option.{option_map}
use Rattle.std.proofs.lemmas.Bool.{ltb-true}
use Rattle.std.proofs.lemmas.Option.{slice_get_read}
use Rattle.redo_logs.specs.Logs.{entry_at}
use Rattle.redo_logs.specs.Numbering.{Numbering, numbered_value}
use Rattle.redo_logs.specs.Private.Stored.{IsLogWithin}
use Rattle.redo_logs.proofs.TextLines.{entry_found, found_within, none_of, stored_at}
use Rattle.redo_logs.proofs.numbered.Numbered.entry.Goals as goal

pub returns-in_err-one-clause-entry : goal.returns-in_err-one-clause-entry
returns-in_err-one-clause-entry c =
    let logs = c.self.inside.logs.now in
    let parts = c.self.inside.store.now in
    let at = slice_get_read logs _ c.args.i _ refl (ltb-true _ _ (sym c.in_ok-log.ensures.lookup.0)) c.in_ok-log.ensures.lookup.1 in
    let within = (stored_at (IsLogWithin parts) logs c.args.i c.in_ok-log.log.now c.self.invariant.within at).records in
    ap (option_map (numbered_value c.args.self.now.names)) c.from_residual-in_err-one.ensures
    ∙ sym (none_of parts logs c.args.i c.args.k c.in_ok-log.log.now at within c.in_err-one.ensures.none)
    ∙ ap (λ (n : Numbering). entry_at c.args.i c.args.k n.logs) c.self.view_is

pub load_numbered-requires-clause-within : goal.load_numbered-requires-clause-within
load_numbered-requires-clause-within c =
    let logs = c.self.inside.logs.now in
    let parts = c.self.inside.store.now in
    let at = slice_get_read logs _ c.args.i _ refl (ltb-true _ _ (sym c.in_ok-log.ensures.lookup.0)) c.in_ok-log.ensures.lookup.1 in
    let within = (stored_at (IsLogWithin parts) logs c.args.i c.in_ok-log.log.now c.self.invariant.within at).records in
    found_within parts c.in_ok-log.log.now.records c.args.k c.in_ok-one.one c.in_ok-one.place within c.in_ok-one.ensures.found

pub returns-clause-entry : goal.returns-clause-entry
returns-clause-entry c =
    let logs = c.self.inside.logs.now in
    let parts = c.self.inside.store.now in
    let at = slice_get_read logs _ c.args.i _ refl (ltb-true _ _ (sym c.in_ok-log.ensures.lookup.0)) c.in_ok-log.ensures.lookup.1 in
    let within = (stored_at (IsLogWithin parts) logs c.args.i c.in_ok-log.log.now c.self.invariant.within at).records in
    ap (λ (n : Numbering). Some (numbered_value n.names c.load_numbered.result)) (sym c.self.view_is)
    ∙ sym (entry_found parts logs c.args.i c.args.k c.in_ok-log.log.now at c.in_ok-one.one c.in_ok-one.place within
    c.in_ok-one.ensures.found ∙ c.load_numbered.ensures.denotes)
    ∙ ap (λ (n : Numbering). entry_at c.args.i c.args.k n.logs) c.self.view_is
