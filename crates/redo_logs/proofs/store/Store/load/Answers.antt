use Rattle.std.proofs.Common.{◌≡◌, ◌<◌, Some, get_or, ap, sym, subst, ◌∙◌}
use Rattle.std.specs.List.{slice_get, slice_range}
use Rattle.redo_line.specs.declared.entry.Entry.TheVariants as entry
use Rattle.redo_logs.specs.Private.Store.{Parts, Within, count_in, note_value, denotes}
use Rattle.redo_logs.proofs.TextLines.{note_there, one_there, text_shown}
use Rattle.redo_logs.proofs.store.Store.load.Goals as goal

pub returns-in-Texts : goal.returns-in-Texts
returns-in-Texts c =
    let self = c.args.self.now in
    ap (λ one. slice_get (denotes self one) c.args.place) c.in-Texts.is
    ∙ text_shown self c.in-Texts.lines c.in-Texts.block c.in-Texts.start c.in-Texts.end c.args.place _ c.skip_lines.result.now
    (subst (Within self) c.in-Texts.is c.requires.within)
    (ap (λ bytes. slice_range bytes c.in-Texts.start c.in-Texts.end) c.block.ensures) c.skip_lines.ensures.lines c.first_line.result.now
    c.first_line.ensures

pub returns-in-Note : goal.returns-in-Note
returns-in-Note c =
    let self = c.args.self.now in
    let below = subst (λ one. c.args.place < count_in one) c.in-Note.is c.requires.index in
    let within = subst (Within self) c.in-Note.is c.requires.within in
    let notes = ap (λ (p : Parts). p.notes) c.self.view_is in
    let there : slice_get self.notes c.in-Note.note ≡ Some c.index.result.now =
    note_there self self.notes c.in-Note.note c.index.result.now within
    (c.index.ensures ∙ ap (λ ns. get_or ns c.in-Note.note c.index.result.now) notes) in
    let note : note_value self (slice_get self.notes c.in-Note.note) ≡ entry.Note c.index.result.now.pid
    (slice_range c.block-bytes.result.now c.index.result.now.start c.index.result.now.middle)
    (slice_range c.block-bytes.result.now c.index.result.now.middle c.index.result.now.end) =
    ap (note_value self) there ∙ ap (λ bytes.
    entry.Note c.index.result.now.pid (slice_range bytes c.index.result.now.start c.index.result.now.middle)
    (slice_range bytes c.index.result.now.middle c.index.result.now.end)) (sym c.block-bytes.ensures) in
    ap (λ one. slice_get (denotes self one) c.args.place) c.in-Note.is ∙ one_there _ c.args.place below ∙ ap Some note
