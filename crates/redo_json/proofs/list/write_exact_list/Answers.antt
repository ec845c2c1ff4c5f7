use Rattle.std.proofs.Common.{◌≡◌, ℕ, ◌+◌, ◌<◌, List, ◌∷◌, ◌++◌, [], length, map, drop, get_or, sym, ap, ◌∙◌, arith, Bor}
use Rattle.std.proofs.lemmas.List.{length-map}
use Rattle.std.specs.Prelude.{codes}
use Rattle.json.specs.Print.{escape}
use Rattle.redo_device.specs.Sink.{append_output}
use Rattle.redo_device.proofs.WritesLemmas.{append_nothing}
use Rattle.redo_json.specs.Fields.{Field, exact_items, exact_list, exact_name}
use Rattle.redo_json.specs.Private.Parts.{IsNextExact, comma_fields, exact_item}
use Rattle.redo_json.proofs.PartLemmas.{exact_list_parts, item_at}
use Rattle.redo_json.proofs.WritingLemmas.{begin, failed_part, wrote_more, wrote_rest}
use Rattle.redo_json.proofs.list.write_exact_list.Goals as goal

abbrev no_bytes : Bor (List ℕ)
no_bytes = record { ref_ptr = (0, 0); now = [] }

abbrev bytes_of : Bor (List ℕ) → List ℕ
bytes_of bytes = bytes.now

abbrev whole : List ℕ → List (Bor (List ℕ)) → List ℕ
whole name list = comma_fields (exact_list (exact_name name) (exact_items 0 (map bytes_of list)))

abbrev others : List (Bor (List ℕ)) → ℕ → List ℕ
others list at = comma_fields (exact_items (at + 1) (drop (at + 1) (map bytes_of list)))

parts : (name : List ℕ) (list : List (Bor (List ℕ))) (at : ℕ) (other : Bor (List ℕ)) → IsNextExact (map bytes_of list) 0 at
    → (44 ∷ 34 ∷ (escape name ++ codes "_base64\":{")) ++ (exact_item at (get_or list at other).now ++ (others list at ++ 125 ∷ []))
    ≡ whole name list
parts name list at other next =
    let below : at < length list = omega (arith, next.within, length-map list bytes_of) in
    ap (λ (bytes : List ℕ). (44 ∷ 34 ∷ (escape name ++ codes "_base64\":{")) ++ (exact_item at bytes ++ (others list at ++ 125 ∷ [])))
    (sym (item_at list at other below))
    ∙ exact_list_parts name (map bytes_of list) at next

pub returns-in_default : goal.returns-in_default
returns-in_default g c =
    let before = g.W.Sink.written c.args.out.now in
    append_nothing before
    ∙ ap (λ (fields : List Field). append_output before (comma_fields (exact_list (exact_name c.args.name.now) fields)) 0)
    (sym c.in_default.ensures.none)

pub returns-in_err-write_parts : goal.returns-in_err-write_parts
returns-in_err-write_parts g c =
    failed_part _ _ _ (whole c.args.name.now c.args.list.now) _ _ _ _ c.from_residual.ensures.0
    (begin (g.W.Sink.written c.args.out.now) _ _ (parts c.args.name.now c.args.list.now c.in-Some.first no_bytes c.in-Some.ensures.some))
    c.in_err-write_parts.ensures

pub returns-in_err-write_exact_item : goal.returns-in_err-write_exact_item
returns-in_err-write_exact_item g c =
    failed_part _ _ _ (whole c.args.name.now c.args.list.now) _ _ _ _ c.from_residual-in_err-write_exact_item.ensures.0
    (wrote_more _ _ _ _ _ _
    (begin (g.W.Sink.written c.args.out.now) _ _ (parts c.args.name.now c.args.list.now c.in-Some.first _ c.in-Some.ensures.some))
    c.in_ok-write_parts.ensures) c.in_err-write_exact_item.ensures

pub returns-in_err-write_other_items : goal.returns-in_err-write_other_items
returns-in_err-write_other_items g c =
    failed_part _ _ _ (whole c.args.name.now c.args.list.now) (others c.args.list.now c.in-Some.first) (125 ∷ []) _ _
    c.from_residual-in_err-write_other_items.ensures.0
    (wrote_more _ _ _ _ _ _
    (wrote_more _ _ _ _ _ _
    (begin (g.W.Sink.written c.args.out.now) _ _ (parts c.args.name.now c.args.list.now c.in-Some.first _ c.in-Some.ensures.some))
    c.in_ok-write_parts.ensures) c.in_ok-write_exact_item.ensures) c.in_err-write_other_items.ensures

pub returns : goal.returns
returns g c =
    wrote_rest _ _ _ (whole c.args.name.now c.args.list.now) (125 ∷ []) _
    (wrote_more _ _ _ _ (others c.args.list.now c.in-Some.first) (125 ∷ [])
    (wrote_more _ _ _ _ _ _
    (wrote_more _ _ _ _ _ _
    (begin (g.W.Sink.written c.args.out.now) _ _ (parts c.args.name.now c.args.list.now c.in-Some.first _ c.in-Some.ensures.some))
    c.in_ok-write_parts.ensures) c.in_ok-write_exact_item.ensures) c.in_ok-write_other_items.ensures) c.push_all.ensures
