use Rattle.std.proofs.Common.{rules, ◌<◌, ℕ, List, drop, get_or, length, sym, subst}
use Rattle.std.proofs.lemmas.List.{get_or_default}
use Rattle.redo_line.specs.declared.entries.EntryAt.{EntryAt}
use Rattle.redo_line.specs.declared.entries.EntryAt.TheVariants.{Texts}
use Rattle.redo_line.specs.Entries.{IsWithin}
use Rattle.redo_logs.specs.declared.store.PackedEntries.{PackedEntries}
use Rattle.redo_logs.specs.Private.Store.{block_of}
use Rattle.redo_logs.proofs.Keeping.{grows_more}
use Rattle.redo_logs.proofs.KeepingAll.{Keeps, next_within, none_kept, one_kept}
use Rattle.redo_logs.proofs.store.Store.store_all.Goals as goal

pub loop-place-init : goal.loop-place-init
loop-place-init c =
    let kept = c.in_ok-block.ensures in
    let begun = c.args.self.now in
    let now = c.store_texts.new.self in
    let names = c.into_pieces-texts.result.1.items in
    let block = c.in_ok-block.block in
    let shift = c.in_ok-block.shift in
    subst (λ (ps : List EntryAt). Keeps begun c.args.entries names ps block shift now c.in_ok-records.records.items 0)
    (sym c.deref-place-items.ensures.value)
    (subst (λ (rs : List PackedEntries). Keeps begun c.args.entries names c.into_pieces-texts.result.2.items block shift now rs 0)
    (sym c.in_ok-records.ensures.items)
    (none_kept begun c.args.entries names c.into_pieces-texts.result.2.items block shift c.into_pieces-texts.result.0.items now
    c.into_pieces-texts.ensures
    kept.extends kept.block kept.offset kept.texts kept.no_overflow))

pub loop-place-preserved : goal.loop-place-preserved
loop-place-preserved c =
    let kept = c.in_ok-record.ensures in
    let places = c.deref-place-items.result.now in
    let below : c.loop-place.place-index < length places = search rules in
    one_kept c.args.self.now c.args.entries c.into_pieces-texts.result.1.items places c.in_ok-block.block c.in_ok-block.shift
    c.loop-place.self c.loop-place.records.items c.loop-place.place-index
    c.loop-place.invariant c.store_at.new.self c.push.new.self.items c.in_ok-record.record _ c.deref.result.now kept.extends kept.blocks
    kept.within
    c.deref.ensures.value kept.denotes c.in_ok-push.ensures.items below
    (get_or_default places c.loop-place.place-index _ _ below)

pub returns-in_err-record-clause-extends : goal.returns-in_err-record-clause-extends
returns-in_err-record-clause-extends c = grows_more _ _ _ c.loop-place.invariant.grows c.in_err-record.ensures.extends

pub returns-in_err-push-clause-extends : goal.returns-in_err-push-clause-extends
returns-in_err-push-clause-extends c = grows_more _ _ _ c.loop-place.invariant.grows c.in_ok-record.ensures.extends

pub store_at-requires-clause-within : goal.store_at-requires-clause-within
store_at-requires-clause-within c =
    let places = c.deref-place-items.result.now in
    let names = c.into_pieces-texts.result.1.items in
    let below : c.loop-place.place-index < length places = search rules in
    let place = get_or places c.loop-place.place-index (Texts 0 0 0) in
    subst (λ (ns : List ℕ). IsWithin (drop c.in_ok-block.shift (block_of c.loop-place.self c.in_ok-block.block)) ns place)
    (sym c.deref.ensures.value)
    (next_within c.args.self.now c.args.entries names places c.in_ok-block.block c.in_ok-block.shift c.loop-place.self
    c.loop-place.records.items c.loop-place.place-index
    c.loop-place.invariant place below (get_or_default places c.loop-place.place-index _ _ below))

pub store_at-requires-clause-offset : goal.store_at-requires-clause-offset
store_at-requires-clause-offset c = search rules
