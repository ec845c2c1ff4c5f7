use Rattle.std.proofs.Common.{ℕ, List, ◌∷◌, [], sym, ap, ◌∙◌}
use Rattle.redo_device.specs.Sink.{append_output}
use Rattle.redo_device.proofs.WritesLemmas.{append_nothing}
use Rattle.redo_outline.specs.Facts.{entries_at, texts_of}
use Rattle.redo_json.specs.Fields.{Field, exact_items, exact_list, exact_name}
use Rattle.redo_json.specs.Private.Parts.{comma_fields}
use Rattle.redo_json.proofs.LineLemmas.{exact_line_parts}
use Rattle.redo_json.proofs.WritingLemmas.{begin, failed_part, wrote_more, wrote_rest}
use Rattle.redo_json.proofs.lines.write_exact_lines.Goals as goal

abbrev whole : List ℕ → List (List ℕ) → List ℕ
whole name lines = comma_fields (exact_list (exact_name name) (exact_items 0 lines))

pub returns-in_default : goal.returns-in_default
returns-in_default g c =
    let before = g.W.Sink.written c.args.out.now in
    append_nothing before
    ∙ ap (λ (fields : List Field). append_output before (comma_fields (exact_list (exact_name c.args.name.now) fields)) 0)
    (sym c.in_default.ensures.none ∙ ap (exact_items c.new-lines.result.done) c.new-lines.ensures.left
    ∙ ap (λ (n : ℕ). exact_items n (texts_of (entries_at c.args.number c.args.table.now))) c.new-lines.ensures.done)

pub returns-in_err-write_parts : goal.returns-in_err-write_parts
returns-in_err-write_parts g c =
    failed_part _ _ _ (whole c.args.name.now (texts_of (entries_at c.args.number c.args.table.now))) _ _ _ _ c.from_residual.ensures.0
    (begin (g.W.Sink.written c.args.out.now) _ _
    (exact_line_parts c.args.name.now (texts_of (entries_at c.args.number c.args.table.now)) c.new-lines.result c.next_exact_line.new.lines
    c.in-Some.position c.in-Some.line.now c.new-lines.ensures.left c.new-lines.ensures.done c.in-Some.ensures.some))
    c.in_err-write_parts.ensures

pub returns-in_err-write_exact_item : goal.returns-in_err-write_exact_item
returns-in_err-write_exact_item g c =
    failed_part _ _ _ (whole c.args.name.now (texts_of (entries_at c.args.number c.args.table.now))) _ _ _ _
    c.from_residual-in_err-write_exact_item.ensures.0
    (wrote_more _ _ _ _ _ _ (begin (g.W.Sink.written c.args.out.now) _ _
    (exact_line_parts c.args.name.now (texts_of (entries_at c.args.number c.args.table.now)) c.new-lines.result c.next_exact_line.new.lines
    c.in-Some.position c.in-Some.line.now c.new-lines.ensures.left c.new-lines.ensures.done c.in-Some.ensures.some))
    c.in_ok-write_parts.ensures) c.in_err-write_exact_item.ensures

pub returns-in_err-write_other_lines : goal.returns-in_err-write_other_lines
returns-in_err-write_other_lines g c =
    failed_part _ _ _ (whole c.args.name.now (texts_of (entries_at c.args.number c.args.table.now)))
    (comma_fields (exact_items c.next_exact_line.new.lines.done c.next_exact_line.new.lines.left)) (125 ∷ []) _ _
    c.from_residual-in_err-write_other_lines.ensures.0
    (wrote_more _ _ _ _ _ _ (wrote_more _ _ _ _ _ _ (begin (g.W.Sink.written c.args.out.now) _ _
    (exact_line_parts c.args.name.now (texts_of (entries_at c.args.number c.args.table.now)) c.new-lines.result c.next_exact_line.new.lines
    c.in-Some.position c.in-Some.line.now c.new-lines.ensures.left c.new-lines.ensures.done c.in-Some.ensures.some))
    c.in_ok-write_parts.ensures) c.in_ok-write_exact_item.ensures)
    c.in_err-write_other_lines.ensures

pub returns : goal.returns
returns g c =
    wrote_rest _ _ _ (whole c.args.name.now (texts_of (entries_at c.args.number c.args.table.now))) (125 ∷ []) _
    (wrote_more _ _ _ _ (comma_fields (exact_items c.next_exact_line.new.lines.done c.next_exact_line.new.lines.left)) (125 ∷ [])
    (wrote_more _ _ _ _ _ _ (wrote_more _ _ _ _ _ _ (begin (g.W.Sink.written c.args.out.now) _ _
    (exact_line_parts c.args.name.now (texts_of (entries_at c.args.number c.args.table.now)) c.new-lines.result c.next_exact_line.new.lines
    c.in-Some.position c.in-Some.line.now c.new-lines.ensures.left c.new-lines.ensures.done c.in-Some.ensures.some))
    c.in_ok-write_parts.ensures) c.in_ok-write_exact_item.ensures)
    c.in_ok-write_other_lines.ensures) c.push_all.ensures
