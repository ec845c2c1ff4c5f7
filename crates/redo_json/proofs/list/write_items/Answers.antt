use Rattle.std.proofs.Common.{◌≡◌, ℕ, List, true, ◌++◌, ◌+◌, ◌<◌, length, map, drop, get_or, ap, ◌∙◌, refl, arith, Bor}
use Rattle.std.proofs.lemmas.List.{length-map}
use Rattle.std.specs.Prelude.{◌==◌}
use Rattle.redo_json.specs.Private.Parts.{item_text, items_text}
use Rattle.redo_json.proofs.PartLemmas.{item_at, items_end, items_step}
use Rattle.redo_json.proofs.WritingLemmas.{begin, failed_part, left_is, wrote_all, wrote_more}
use Rattle.redo_json.proofs.list.write_items.Goals as goal

-- The next item, and the rest.
step : (list : List (Bor (List ℕ))) (at : ℕ) (other : Bor (List ℕ)) → at < length list
    → items_text (at == 0) (drop at (map (λ (bytes : Bor (List ℕ)). bytes.now) list))
    ≡ item_text (at == 0) (get_or list at other).now
    ++ items_text (at + 1 == 0) (drop (at + 1) (map (λ (bytes : Bor (List ℕ)). bytes.now) list))
step list at other below =
    let all = map (λ (bytes : Bor (List ℕ)). bytes.now) list in
    let size = length-map list (λ (bytes : Bor (List ℕ)). bytes.now) in
    items_step all at (omega (arith, size, below))
    ∙ ap (λ (bytes : List ℕ). item_text (at == 0) bytes ++ items_text (at + 1 == 0) (drop (at + 1) all)) (item_at list at other below)

pub items-init : goal.items-init
items-init g c = begin _ _ _ refl

pub returns-in_err-write_item : goal.returns-in_err-write_item
returns-in_err-write_item g c =
    failed_part _ _ _ (items_text true (map (λ (bytes : Bor (List ℕ)). bytes.now) c.args.list.now)) _ _ _ _ c.from_residual.ensures.0
    (left_is _ _ _ _ _ (step c.args.list.now c.items.at _ c.items-test.true) c.items.invariant) c.in_err-write_item.ensures

pub items-preserved : goal.items-preserved
items-preserved g c =
    wrote_more _ _ _ _ _ _ (left_is _ _ _ _ _ (step c.args.list.now c.items.at _ c.items-test.true) c.items.invariant)
    c.in_ok-write_item.ensures

pub returns : goal.returns
returns g c =
    let list = c.args.list.now in
    let size = length-map list (λ (bytes : Bor (List ℕ)). bytes.now) in
    wrote_all _ _ _ (left_is _ _ _ _ _ (items_end _ (map (λ (bytes : Bor (List ℕ)). bytes.now) list) c.items.at
    (omega (arith, size, c.items-test.false))) c.items.invariant)
