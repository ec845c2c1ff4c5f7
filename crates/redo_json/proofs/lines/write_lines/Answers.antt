use Rattle.std.proofs.Common.{true, List, [], ◌∷◌, ◌++◌, ap}
use Rattle.redo_outline.specs.Facts.{entries_at, texts_of}
use Rattle.redo_json.specs.Fields.{Field, exact_items, exact_list, exact_name, list_fields}
use Rattle.redo_json.specs.Private.Parts.{comma_fields, items_text}
use Rattle.redo_json.proofs.LineLemmas.{no_exact_items}
use Rattle.redo_json.proofs.PartLemmas.{list_parts}
use Rattle.redo_json.proofs.WritingLemmas.{begin, failed_part, left_is, wrote_all, wrote_more, wrote_rest}
use Rattle.redo_json.proofs.lines.write_lines.Goals as goal

pub returns-in_err-write_parts : goal.returns-in_err-write_parts
returns-in_err-write_parts g c =
    let name = c.args.name.now in
    let list = texts_of (entries_at c.args.number c.args.table.now) in
    let exact = comma_fields (exact_list (exact_name name) (exact_items 0 list)) in
    let whole = comma_fields (list_fields name list) in
    failed_part _ _ _ whole _ _ _ _ c.from_residual.ensures.0
    (begin (g.W.Sink.written c.args.out.now) whole _ (list_parts name exact list)) c.in_err-write_parts.ensures

pub returns-in_err-write_texts : goal.returns-in_err-write_texts
returns-in_err-write_texts g c =
    let name = c.args.name.now in
    let list = texts_of (entries_at c.args.number c.args.table.now) in
    let exact = comma_fields (exact_list (exact_name name) (exact_items 0 list)) in
    let whole = comma_fields (list_fields name list) in
    failed_part _ _ _ whole (items_text true list) ((93 ∷ []) ++ exact) _ _ c.from_residual-in_err-write_texts.ensures.0
    (wrote_more _ _ _ _ _ _ (begin (g.W.Sink.written c.args.out.now) whole _ (list_parts name exact list)) c.in_ok-write_parts.ensures)
    c.in_err-write_texts.ensures

pub returns-in_err-push_all : goal.returns-in_err-push_all
returns-in_err-push_all g c =
    let name = c.args.name.now in
    let list = texts_of (entries_at c.args.number c.args.table.now) in
    let exact = comma_fields (exact_list (exact_name name) (exact_items 0 list)) in
    let whole = comma_fields (list_fields name list) in
    failed_part _ _ _ whole (93 ∷ []) exact _ _ c.from_residual-in_err-push_all.ensures.0
    (wrote_more _ _ _ _ (items_text true list) ((93 ∷ []) ++ exact)
    (wrote_more _ _ _ _ _ _ (begin (g.W.Sink.written c.args.out.now) whole _ (list_parts name exact list)) c.in_ok-write_parts.ensures)
    c.in_ok-write_texts.ensures) c.in_err-push_all.ensures

pub returns-then-is_text : goal.returns-then-is_text
returns-then-is_text g c =
    let name = c.args.name.now in
    let list = texts_of (entries_at c.args.number c.args.table.now) in
    let exact = comma_fields (exact_list (exact_name name) (exact_items 0 list)) in
    let whole = comma_fields (list_fields name list) in
    wrote_all _ _ whole
    (left_is _ _ whole exact [] (ap (λ (fields : List Field). comma_fields (exact_list (exact_name name) fields))
    (no_exact_items 0 list (c.is_text.ensures c.if-is_text.true list c.requires)))
    (wrote_more _ _ _ _ (93 ∷ []) exact
    (wrote_more _ _ _ _ (items_text true list) ((93 ∷ []) ++ exact)
    (wrote_more _ _ _ _ _ _ (begin (g.W.Sink.written c.args.out.now) whole _ (list_parts name exact list)) c.in_ok-write_parts.ensures)
    c.in_ok-write_texts.ensures) c.in_ok-push_all.ensures))

pub returns : goal.returns
returns g c =
    let name = c.args.name.now in
    let list = texts_of (entries_at c.args.number c.args.table.now) in
    let exact = comma_fields (exact_list (exact_name name) (exact_items 0 list)) in
    let whole = comma_fields (list_fields name list) in
    wrote_rest _ _ _ whole exact _
    (wrote_more _ _ _ _ (93 ∷ []) exact
    (wrote_more _ _ _ _ (items_text true list) ((93 ∷ []) ++ exact)
    (wrote_more _ _ _ _ _ _ (begin (g.W.Sink.written c.args.out.now) whole _ (list_parts name exact list)) c.in_ok-write_parts.ensures)
    c.in_ok-write_texts.ensures) c.in_ok-push_all.ensures) c.write_exact_lines.ensures
