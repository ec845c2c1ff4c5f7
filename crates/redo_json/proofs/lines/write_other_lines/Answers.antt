use Rattle.std.proofs.Common.{[], ◌∷◌, refl, ap}
use Rattle.redo_json.specs.Fields.{exact_items}
use Rattle.redo_json.specs.Private.Parts.{comma_fields}
use Rattle.redo_json.proofs.WritingLemmas.{begin, failed_part, left_is, wrote_all, wrote_more}
use Rattle.redo_json.proofs.lines.write_other_lines.Goals as goal

pub each-init : goal.each-init
each-init g c = begin _ _ _ refl

pub returns-in_err-push_all : goal.returns-in_err-push_all
returns-in_err-push_all g c =
    let whole = comma_fields (exact_items c.args.lines.now.done c.args.lines.now.left) in
    failed_part _ _ _ whole (44 ∷ []) _ _ _ c.from_residual.ensures.0
    (left_is _ _ _ _ _ (ap comma_fields c.in-Some.ensures.some.fields) c.each.invariant) c.in_err-push_all.ensures

pub returns-in_err-write_exact_item : goal.returns-in_err-write_exact_item
returns-in_err-write_exact_item g c =
    let whole = comma_fields (exact_items c.args.lines.now.done c.args.lines.now.left) in
    failed_part _ _ _ whole _ _ _ _ c.from_residual-in_err-write_exact_item.ensures.0
    (wrote_more _ _ _ _ (44 ∷ []) _ (left_is _ _ _ _ _ (ap comma_fields c.in-Some.ensures.some.fields) c.each.invariant)
    c.in_ok-push_all.ensures) c.in_err-write_exact_item.ensures

pub each-smaller : goal.each-smaller
each-smaller g c = c.in-Some.ensures.some.fewer

pub each-preserved : goal.each-preserved
each-preserved g c =
    wrote_more _ _ _ _ _ _
    (wrote_more _ _ _ _ (44 ∷ []) _ (left_is _ _ _ _ _ (ap comma_fields c.in-Some.ensures.some.fields) c.each.invariant)
    c.in_ok-push_all.ensures) c.in_ok-write_exact_item.ensures

pub returns : goal.returns
returns g c = wrote_all _ _ _ (left_is _ _ _ _ _ (ap comma_fields c.in_default.ensures.none) c.each.invariant)
