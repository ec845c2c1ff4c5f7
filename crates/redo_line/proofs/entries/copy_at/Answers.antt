use Rattle.std.proofs.Common.{[], ◌∷◌, length, arith, sym, ap, ◌∙◌, ◌≡◌, subst}
use Rattle.redo_line.specs.Entries.{IsWithin, entries_at_place}
use Rattle.redo_line.specs.declared.entry.Entry.TheVariants.{Text}
use Rattle.redo_line.proofs.EntriesLemmas.{one_line}
use Rattle.redo_line.proofs.entries.copy_at.Goals as goal

pub overflow_sub-end : goal.overflow_sub-end
overflow_sub-end c =
    let bytes = c.args.bytes.now in
    let within = subst (IsWithin bytes c.args.names.now) c.in-Texts.is c.requires.within in
    let one = subst (λ place. length (entries_at_place bytes c.args.names.now place) ≡ 1) c.in-Texts.is c.requires.alone in
    let line = one_line bytes _ c.in-Texts.start c.in-Texts.end within.0 within.1 within.2 one in
    omega (arith, line.some)

pub slice_bounds-copy_of-count : goal.slice_bounds-copy_of-count
slice_bounds-copy_of-count c =
    let bytes = c.args.bytes.now in
    let within = subst (IsWithin bytes c.args.names.now) c.in-Texts.is c.requires.within in
    let one = subst (λ place. length (entries_at_place bytes c.args.names.now place) ≡ 1) c.in-Texts.is c.requires.alone in
    let line = one_line bytes _ c.in-Texts.start c.in-Texts.end within.0 within.1 within.2 one in
    omega (arith, line.some)

pub slice_bounds-copy_of-start : goal.slice_bounds-copy_of-start
slice_bounds-copy_of-start c =
    let bytes = c.args.bytes.now in
    let within = subst (IsWithin bytes c.args.names.now) c.in-Texts.is c.requires.within in
    let one = subst (λ place. length (entries_at_place bytes c.args.names.now place) ≡ 1) c.in-Texts.is c.requires.alone in
    let line = one_line bytes _ c.in-Texts.start c.in-Texts.end within.0 within.1 within.2 one in
    omega (arith, line.some)

pub copy_of-requires : goal.copy_of-requires
copy_of-requires c =
    let bytes = c.args.bytes.now in
    let within = subst (IsWithin bytes c.args.names.now) c.in-Texts.is c.requires.within in
    let one = subst (λ place. length (entries_at_place bytes c.args.names.now place) ≡ 1) c.in-Texts.is c.requires.alone in
    (one_line bytes _ c.in-Texts.start c.in-Texts.end within.0 within.1 within.2 one).no_feed

pub returns-in_ok-text-in-Texts : goal.returns-in_ok-text-in-Texts
returns-in_ok-text-in-Texts c =
    let bytes = c.args.bytes.now in
    let within = subst (IsWithin bytes c.args.names.now) c.in-Texts.is c.requires.within in
    let one = subst (λ place. length (entries_at_place bytes c.args.names.now place) ≡ 1) c.in-Texts.is c.requires.alone in
    let line = one_line bytes _ c.in-Texts.start c.in-Texts.end within.0 within.1 within.2 one in
    ap (entries_at_place bytes c.args.names.now) c.in-Texts.is ∙ line.is ∙ ap (λ l. Text l ∷ []) (sym c.in_ok-text-in-Texts.ensures)
