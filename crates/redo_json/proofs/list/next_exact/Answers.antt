use Rattle.std.proofs.Common.{ℕ, ◌<◌, List, length, map, sym, ap, ◌∙◌, refl, arith, Bor}
use Rattle.std.proofs.lemmas.List.{length-map}
use Rattle.std.specs.Str.{is_utf8}
use Rattle.redo_json.proofs.PartLemmas.{found_item, item_at, no_more_items, skip_item}
use Rattle.redo_json.proofs.list.next_exact.Goals as goal

abbrev bytes_of : Bor (List ℕ) → List ℕ
bytes_of bytes = bytes.now

size : (list : List (Bor (List ℕ))) (at : ℕ) → at < length list → at < length (map bytes_of list)
size list at below = omega (arith, below, length-map list bytes_of)

pub items-init : goal.items-init
items-init c = refl

pub returns-then-not-is_text-clause-some : goal.returns-then-not-is_text-clause-some
returns-then-not-is_text-clause-some c =
    let list = c.args.list.now in
    let at = c.items.at in
    let below = size list at c.items-test.true in
    found_item (map bytes_of list) c.args.from at below c.items.auto.at
    (ap is_utf8 (item_at list at _ c.items-test.true) ∙ sym c.is_text.ensures ∙ c.if-not-is_text.true) c.items.invariant

pub items-preserved : goal.items-preserved
items-preserved c =
    let list = c.args.list.now in
    let at = c.items.at in
    c.items.invariant
    ∙ skip_item (map bytes_of list) at (size list at c.items-test.true)
    (ap is_utf8 (item_at list at _ c.items-test.true) ∙ sym c.is_text.ensures ∙ c.if-not-is_text.false)

pub returns-clause-none : goal.returns-clause-none
returns-clause-none c =
    let list = c.args.list.now in
    c.items.invariant ∙ no_more_items (map bytes_of list) c.items.at (omega (arith, c.items-test.false, length-map list bytes_of))
