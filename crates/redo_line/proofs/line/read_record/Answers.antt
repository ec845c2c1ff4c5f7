use Rattle.std.proofs.Common.{[], ◌∷◌, ◌++◌, refl, sym, ap, subst, ◌∙◌}
use Rattle.std.proofs.lemmas.List.{take_rest}
use Rattle.redo_line.specs.Lines.{HasNoLineFeed, line_feed}
use Rattle.redo_line.proofs.PartLemmas.{free_drop}
use Rattle.redo_line.proofs.RecordLemmas.{parts_free}
use Rattle.redo_line.specs.declared.entry.Entry.TheVariants.{Mention, Note}
use Rattle.redo_line.specs.Private.Line.{ReadsInto}
use Rattle.redo_line.proofs.ReadingLemmas.{behind_line, named_read, no_memory, refused_into, refused_name, what_it_says, what_none_says}
use Rattle.redo_line.proofs.line.read_record.Goals as goal

pub returns-in_default-clause-read : goal.returns-in_default-clause-read
returns-in_default-clause-read c = (
  what_none_says c.args.target.now c.args.line.now _ c.requires.record_prefix
      (behind_line c.args.line.now c.args.line.now refl) c.in_default.ensures.none,
  refl,
)

pub returns-in_err-resolve-in-Mention-clause-read : goal.returns-in_err-resolve-in-Mention-clause-read
returns-in_err-resolve-in-Mention-clause-read c =
    let target = c.args.target.now in let line = c.args.line.now in let kind = c.in-Some.fields.kind.now in let pid =
    c.in-Some.fields.pid in let text = c.in-Some.fields.text.now in
    let says = what_it_says target line line kind pid text _ c.requires.record_prefix refl c.in-Some.ensures.some c.in-Mention.ensures in
    subst (λ read. ReadsInto c.from_residual.result read c.args.entries.now c.args.entries.now) (sym says)
    (refused_into c.from_residual.result _ _ _ _ c.from_residual.ensures
    (refused_name (λ mentioned. Mention pid c.in-Mention.how mentioned) target text c.in_err-resolve-in-Mention.field-0.0
    c.in_err-resolve-in-Mention.ensures.empty) refl)

pub returns-in_err-push_mention-in-Mention-clause-read : goal.returns-in_err-push_mention-in-Mention-clause-read
returns-in_err-push_mention-in-Mention-clause-read c =
    let target = c.args.target.now in let line = c.args.line.now in let kind = c.in-Some.fields.kind.now in let pid =
    c.in-Some.fields.pid in let text = c.in-Some.fields.text.now in
    let says = what_it_says target line line kind pid text _ c.requires.record_prefix refl c.in-Some.ensures.some c.in-Mention.ensures in
    let named = says ∙ named_read (λ mentioned. Mention pid c.in-Mention.how mentioned) target text c.resolve.new.self.path
    c.in_ok-resolve-in-Mention.ensures.ok in
    refused_into c.from_residual-in_err-push_mention-in-Mention.result _ _ _ _ c.from_residual-in_err-push_mention-in-Mention.ensures
    (no_memory _ _ named) c.in_err-push_mention-in-Mention.ensures.unchanged_on_err

pub returns-in_ok-push_mention-in-Mention-clause-read : goal.returns-in_ok-push_mention-in-Mention-clause-read
returns-in_ok-push_mention-in-Mention-clause-read c =
    let target = c.args.target.now in let line = c.args.line.now in let kind = c.in-Some.fields.kind.now in let pid =
    c.in-Some.fields.pid in let text = c.in-Some.fields.text.now in
    let says = what_it_says target line line kind pid text _ c.requires.record_prefix refl c.in-Some.ensures.some c.in-Mention.ensures in
    let named = says ∙ named_read (λ mentioned. Mention pid c.in-Mention.how mentioned) target text c.resolve.new.self.path
    c.in_ok-resolve-in-Mention.ensures.ok in
    record {
      entry = Mention pid c.in-Mention.how c.resolve.new.self.path;
      is = named;
      put = c.in_ok-push_mention-in-Mention.ensures.pushed
          ∙ ap (λ name. c.args.entries.now ++ Mention pid c.in-Mention.how name ∷ []) c.path.ensures;
      closing_is = refl;
    }

pub returns-in-Done-clause-read : goal.returns-in-Done-clause-read
returns-in-Done-clause-read c =
    let target = c.args.target.now in let line = c.args.line.now in let kind = c.in-Some.fields.kind.now in let pid =
    c.in-Some.fields.pid in let text = c.in-Some.fields.text.now in
    let says = what_it_says target line line kind pid text _ c.requires.record_prefix refl c.in-Some.ensures.some c.in-Done.ensures in
    subst (λ read. ReadsInto c.read_done.result read c.args.entries.now c.read_done.new.entries) (sym says) c.read_done.ensures.read

pub returns-in_err-push_note-in-Note-clause-read : goal.returns-in_err-push_note-in-Note-clause-read
returns-in_err-push_note-in-Note-clause-read c =
    let target = c.args.target.now in let line = c.args.line.now in let kind = c.in-Some.fields.kind.now in let pid =
    c.in-Some.fields.pid in let text = c.in-Some.fields.text.now in
    let says = what_it_says target line line kind pid text _ c.requires.record_prefix refl c.in-Some.ensures.some c.in-Note.ensures in
    refused_into c.from_residual-in_err-push_note-in-Note.result _ _ _ _ c.from_residual-in_err-push_note-in-Note.ensures
    (no_memory _ (Note pid kind text) says) c.in_err-push_note-in-Note.ensures.unchanged_on_err

pub returns-in_ok-push_note-in-Note-clause-read : goal.returns-in_ok-push_note-in-Note-clause-read
returns-in_ok-push_note-in-Note-clause-read c =
    let target = c.args.target.now in let line = c.args.line.now in let kind = c.in-Some.fields.kind.now in let pid =
    c.in-Some.fields.pid in let text = c.in-Some.fields.text.now in
    let says = what_it_says target line line kind pid text _ c.requires.record_prefix refl c.in-Some.ensures.some c.in-Note.ensures in
    record { entry = Note pid kind text; is = says; put = c.in_ok-push_note-in-Note.ensures.pushed; closing_is = refl }

pub push_note-requires-clause-kind : goal.push_note-requires-clause-kind
push_note-requires-clause-kind c =
    let line = c.args.line.now in
    (parts_free _ c.in-Some.fields.kind.now c.in-Some.fields.pid c.in-Some.fields.text.now
    (subst HasNoLineFeed (sym (take_rest line 7)) (free_drop line_feed 7 line c.requires.no_line_feed)) c.in-Some.ensures.some).0

pub push_note-requires-clause-text : goal.push_note-requires-clause-text
push_note-requires-clause-text c =
    let line = c.args.line.now in
    (parts_free _ c.in-Some.fields.kind.now c.in-Some.fields.pid c.in-Some.fields.text.now
    (subst HasNoLineFeed (sym (take_rest line 7)) (free_drop line_feed 7 line c.requires.no_line_feed)) c.in-Some.ensures.some).1
