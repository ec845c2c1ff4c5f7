use Rattle.std.proofs.Common.{true, [], ◌∷◌, ◌++◌, option_copied}
use Rattle.std.specs.Prelude.{codes}
use Rattle.std.proofs.lemmas.Result.{err_from_is_err_and}
use Rattle.redo_outline.specs.Facts.{entries_at, texts_of}
use Rattle.redo_json.specs.Diagnostics.{diagnostics_field, diagnostics_of, flagged}
use Rattle.redo_json.specs.Private.Parts.{comma_field, diagnostics_text}
use Rattle.redo_json.proofs.DiagnosticLemmas.{list_of_diagnostics}
use Rattle.redo_json.proofs.FormLemmas.{part_failed, write_failed}
use Rattle.redo_json.proofs.WritingLemmas.{begin, wrote_all, wrote_more}
use Rattle.redo_json.proofs.diagnostics.write_diagnostics.Goals as goal

pub returns-in_err-push_all : goal.returns-in_err-push_all
returns-in_err-push_all g c =
    let lines = texts_of (entries_at c.args.number c.args.table.now) in
    let flags = option_copied c.args.flags in
    let whole = comma_field (diagnostics_field flags lines) in
    let given = err_from_is_err_and c.from_residual.result c.from_residual.ensures.1 in
    rw (given.1, given.2) (write_failed _ _ _ whole (codes ",\"diagnostics\":[") (diagnostics_text true (flagged flags (diagnostics_of lines))
    ++ 93 ∷ []) _ (begin (g.W.Sink.written c.args.out.now) whole _ (list_of_diagnostics flags lines)) c.in_err-push_all.ensures)

pub returns-in_err-write_each : goal.returns-in_err-write_each
returns-in_err-write_each g c =
    let lines = texts_of (entries_at c.args.number c.args.table.now) in
    let flags = option_copied c.args.flags in
    let whole = comma_field (diagnostics_field flags lines) in
    let given = err_from_is_err_and c.from_residual-in_err-write_each.result c.from_residual-in_err-write_each.ensures.1 in
    rw (given.1, given.2) (part_failed _ _ _ whole (diagnostics_text true (flagged flags (diagnostics_of lines))) (93 ∷ []) _
    (wrote_more _ _ _ _ (codes ",\"diagnostics\":[") (diagnostics_text true (flagged flags (diagnostics_of lines)) ++ 93 ∷ [])
    (begin (g.W.Sink.written c.args.out.now) whole _ (list_of_diagnostics flags lines)) c.in_ok-push_all.ensures)
    c.in_err-write_each.ensures)

pub returns-in_err-push_all-2 : goal.returns-in_err-push_all-2
returns-in_err-push_all-2 g c =
    let lines = texts_of (entries_at c.args.number c.args.table.now) in
    let flags = option_copied c.args.flags in
    let whole = comma_field (diagnostics_field flags lines) in
    let given = err_from_is_err_and c.from_residual-in_err-push_all-2.result c.from_residual-in_err-push_all-2.ensures.1 in
    rw (given.1, given.2) (write_failed _ _ _ whole (93 ∷ []) [] _
    (wrote_more _ _ _ _ (diagnostics_text true (flagged flags (diagnostics_of lines))) (93 ∷ [])
    (wrote_more _ _ _ _ (codes ",\"diagnostics\":[") (diagnostics_text true (flagged flags (diagnostics_of lines)) ++ 93 ∷ [])
    (begin (g.W.Sink.written c.args.out.now) whole _ (list_of_diagnostics flags lines)) c.in_ok-push_all.ensures)
    c.in_ok-write_each.ensures)
    c.in_err-push_all-2.ensures)

pub returns : goal.returns
returns g c =
    let lines = texts_of (entries_at c.args.number c.args.table.now) in
    let flags = option_copied c.args.flags in
    let whole = comma_field (diagnostics_field flags lines) in
    wrote_all _ _ whole (wrote_more _ _ _ _ (93 ∷ []) [] (wrote_more _ _ _ _ (diagnostics_text true (flagged flags (diagnostics_of
    lines))) (93 ∷ [])
    (wrote_more _ _ _ _ (codes ",\"diagnostics\":[") (diagnostics_text true (flagged flags (diagnostics_of lines)) ++ 93 ∷ [])
    (begin (g.W.Sink.written c.args.out.now) whole _ (list_of_diagnostics flags lines)) c.in_ok-push_all.ensures)
    c.in_ok-write_each.ensures)
    c.in_ok-push_all-2.ensures)
