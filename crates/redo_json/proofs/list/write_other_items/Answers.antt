use Rattle.std.proofs.Common.{◌≡◌, ℕ, ◌+◌, ◌<◌, List, ◌∷◌, ◌++◌, [], length, map, drop, get_or, ap, ◌∙◌, refl, arith, Bor}
use Rattle.std.proofs.lemmas.List.{length-map}
use Rattle.redo_json.specs.Fields.{exact_items}
use Rattle.redo_json.specs.Private.Parts.{IsNextExact, comma_fields, exact_item}
use Rattle.redo_json.proofs.PartLemmas.{item_at, next_items}
use Rattle.redo_json.proofs.WritingLemmas.{begin, failed_part, left_is, wrote_all, wrote_more}
use Rattle.redo_json.proofs.list.write_other_items.Goals as goal

abbrev no_bytes : Bor (List ℕ)
no_bytes = record { ref_ptr = (0, 0); now = [] }

abbrev bytes_of : Bor (List ℕ) → List ℕ
bytes_of bytes = bytes.now

pub items-init : goal.items-init
items-init g c = record { within = c.requires; wrote = begin _ _ _ refl }

-- The next item with exact bytes, and the rest.
step : (list : List (Bor (List ℕ))) (left at : ℕ) (other : Bor (List ℕ)) → IsNextExact (map bytes_of list) left at
    → comma_fields (exact_items left (drop left (map bytes_of list)))
    ≡ (44 ∷ []) ++ (exact_item at (get_or list at other).now ++ comma_fields (exact_items (at + 1) (drop (at + 1) (map bytes_of list))))
step list left at other next =
    let rest = comma_fields (exact_items (at + 1) (drop (at + 1) (map bytes_of list))) in
    let below : at < length list = omega (arith, next.within, length-map list bytes_of) in
    next_items (map bytes_of list) left at next
    ∙ ap (λ (bytes : List ℕ). 44 ∷ (exact_item at bytes ++ rest)) (item_at list at other below)

pub returns-in_err-push_all : goal.returns-in_err-push_all
returns-in_err-push_all g c =
    let all = map bytes_of c.args.list.now in
    failed_part _ _ _ (comma_fields (exact_items c.args.from (drop c.args.from all))) (44 ∷ []) _ _ _ c.from_residual.ensures.0
    (left_is _ _ _ _ _ (step c.args.list.now c.items.left c.in-Some.at no_bytes c.in-Some.ensures.some) c.items.invariant.wrote)
    c.in_err-push_all.ensures

pub returns-in_err-write_exact_item : goal.returns-in_err-write_exact_item
returns-in_err-write_exact_item g c =
    let all = map bytes_of c.args.list.now in
    failed_part _ _ _ (comma_fields (exact_items c.args.from (drop c.args.from all))) _ _ _ _
    c.from_residual-in_err-write_exact_item.ensures.0
    (wrote_more _ _ _ _ (44 ∷ []) _
    (left_is _ _ _ _ _ (step c.args.list.now c.items.left c.in-Some.at _ c.in-Some.ensures.some) c.items.invariant.wrote)
    c.in_ok-push_all.ensures) c.in_err-write_exact_item.ensures

pub items-preserved : goal.items-preserved
items-preserved g c =
    let size = length-map c.args.list.now bytes_of in
    record {
      within = omega (arith, c.in-Some.ensures.some.within, size);
      wrote = wrote_more _ _ _ _ _ _
          (wrote_more _ _ _ _ (44 ∷ []) _
          (left_is _ _ _ _ _ (step c.args.list.now c.items.left c.in-Some.at _ c.in-Some.ensures.some) c.items.invariant.wrote)
          c.in_ok-push_all.ensures) c.in_ok-write_exact_item.ensures;
    }

pub returns : goal.returns
returns g c = wrote_all _ _ _ (left_is _ _ _ _ _ (ap comma_fields c.in_default.ensures.none) c.items.invariant.wrote)
