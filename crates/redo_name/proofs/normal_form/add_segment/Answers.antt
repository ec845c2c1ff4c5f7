use Rattle.std.proofs.Common.{[], ◌∷◌, ℕ, List, subst, sym}
use Rattle.std.proofs.lemmas.Bool.{iff_false}
use Rattle.std.proofs.lemmas.Result.{on_ok_weaker}
use Rattle.redo_name.specs.Private.Path.{Adds}
use Rattle.redo_name.proofs.PathLemmas.{adds_skipped, adds_ordinary, ordinary_else}
use Rattle.redo_name.proofs.normal_form.add_segment.Goals as goal

pub returns-then-is_skipped : goal.returns-then-is_skipped
returns-then-is_skipped c = adds_skipped c.args.absolute c.args.path.now.items c.args.segment.now
    (c.is_skipped.ensures.0 c.if-is_skipped.true)

pub returns : goal.returns
returns c =
    let path = c.args.path.now.items in
    let segment = c.args.segment.now in
    let ordinary = ordinary_else segment (iff_false c.is_skipped.ensures c.if-is_skipped.false)
    (iff_false c.is_upward.ensures c.if-is_upward.false) in
    on_ok_weaker c.push_segment.result
    (λ pushed. subst (λ (p : List ℕ). Adds c.args.absolute path (segment ∷ []) p) (sym pushed)
    (adds_ordinary c.args.absolute path segment ordinary))
    c.push_segment.ensures
