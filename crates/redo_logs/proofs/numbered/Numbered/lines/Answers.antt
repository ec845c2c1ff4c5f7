use Rattle.std.proofs.Common.{refl, sym, ◌∙◌, subst}
use Rattle.std.proofs.lemmas.Bool.{ltb-true}
use Rattle.std.proofs.lemmas.Option.{none-some, slice_get_read}
use Rattle.redo_line.specs.declared.entry.Entry.TheVariants.{Text}
use Rattle.redo_logs.specs.Numbering.{AreLinesAt, HasText, Numbering}
use Rattle.redo_logs.specs.Private.Stored.{IsLogWithin}
use Rattle.redo_logs.proofs.TextLines.{found_within, lines_found, none_of, stored_at, text_found}
use Rattle.redo_logs.proofs.numbered.Numbered.lines.Goals as goal

pub lines-requires-clause-within : goal.lines-requires-clause-within
lines-requires-clause-within c =
    let logs = c.self.inside.logs.now in
    let parts = c.self.inside.store.now in
    let at = slice_get_read logs _ c.args.i _ refl (ltb-true _ _ (sym c.in-Some.ensures.lookup.0)) c.in-Some.ensures.lookup.1 in
    let within = (stored_at (IsLogWithin parts) logs c.args.i c.in-Some.log.now c.self.invariant.within at).records in
    found_within parts c.in-Some.log.now.records c.args.k c.in-Some-find.one c.in-Some-find.place within c.in-Some-find.ensures.found

pub returns-in-Some-find-clause-lines : goal.returns-in-Some-find-clause-lines
returns-in-Some-find-clause-lines c =
    let logs = c.self.inside.logs.now in
    let parts = c.self.inside.store.now in
    let at = slice_get_read logs _ c.args.i _ refl (ltb-true _ _ (sym c.in-Some.ensures.lookup.0)) c.in-Some.ensures.lookup.1 in
    let within = (stored_at (IsLogWithin parts) logs c.args.i c.in-Some.log.now c.self.invariant.within at).records in
    subst (λ (n : Numbering). AreLinesAt n.logs c.args.i c.args.k c.lines.result.0.now c.lines.result.1) c.self.view_is
    (lines_found parts logs c.args.i c.args.k c.in-Some.log.now c.in-Some-find.one c.in-Some-find.place _ _ at within
    c.in-Some-find.ensures.found c.lines.ensures.lines)

pub returns-in-Some-find-clause-nonempty : goal.returns-in-Some-find-clause-nonempty
returns-in-Some-find-clause-nonempty c text =
    let logs = c.self.inside.logs.now in
    let parts = c.self.inside.store.now in
    let at = slice_get_read logs _ c.args.i _ refl (ltb-true _ _ (sym c.in-Some.ensures.lookup.0)) c.in-Some.ensures.lookup.1 in
    let within = (stored_at (IsLogWithin parts) logs c.args.i c.in-Some.log.now c.self.invariant.within at).records in
    c.lines.ensures.nonempty (text_found parts logs c.args.i c.args.k c.in-Some.log.now at c.in-Some-find.one c.in-Some-find.place within
    c.in-Some-find.ensures.found
    (subst (λ (n : Numbering). HasText n.logs c.args.i c.args.k) (sym c.self.view_is) text))

pub returns-in-None-clause-nonempty : goal.returns-in-None-clause-nonempty
returns-in-None-clause-nonempty c text =
    let logs = c.self.inside.logs.now in
    let parts = c.self.inside.store.now in
    let at = slice_get_read logs _ c.args.i _ refl (ltb-true _ _ (sym c.in-Some.ensures.lookup.0)) c.in-Some.ensures.lookup.1 in
    let within = (stored_at (IsLogWithin parts) logs c.args.i c.in-Some.log.now c.self.invariant.within at).records in
    let has = subst (λ (n : Numbering). HasText n.logs c.args.i c.args.k) (sym c.self.view_is) text in
    absurd (none-some (Text has.0) (sym (none_of parts logs c.args.i c.args.k c.in-Some.log.now at within c.in-None.ensures.none) ∙ has.1))
