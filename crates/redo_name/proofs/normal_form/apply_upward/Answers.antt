use Rattle.std.proofs.Common.{◌++◌, [], ◌∷◌, ℕ, List, Bool, Some, None, subst, sym}
use Rattle.std.proofs.lemmas.Result.{on_ok_weaker}
use Rattle.redo_name.specs.Private.Path.{CanPop, Adds, with_separator}
use Rattle.redo_name.proofs.PathLemmas.{adds_removed, adds_at_root, adds_upward}
use Rattle.redo_name.proofs.normal_form.apply_upward.Goals as goal

pub returns-in-Some : goal.returns-in-Some
returns-in-Some c upward =
    let path = c.args.path.now.items in
    let ends = subst (λ (p : List ℕ). CanPop p (Some c.in-Some.above)) c.deref.ensures.value c.in-Some.ensures in
    subst (λ (p : List ℕ). Adds c.args.absolute path (c.args.segment.now ∷ []) p) (sym c.truncate.ensures.items)
    (adds_removed c.args.absolute path c.args.segment.now c.in-Some.above ends upward)

pub returns-in-None : goal.returns-in-None
returns-in-None c upward =
    let path = c.args.path.now.items in
    let ends = subst (λ (p : List ℕ). CanPop p None) c.deref.ensures.value c.in-None.ensures in
    subst (λ (a : Bool). Adds a path (c.args.segment.now ∷ []) path) (sym c.if-absolute.true)
    (adds_at_root path c.args.segment.now ends upward)

pub returns-in-None-2 : goal.returns-in-None-2
returns-in-None-2 c =
    let path = c.args.path.now.items in
    let segment = c.args.segment.now in
    let ends = subst (λ (p : List ℕ). CanPop p None) c.deref.ensures.value c.in-None-2.ensures in
    on_ok_weaker c.push_segment.result
    (λ pushed upward. subst (λ (p : List ℕ). Adds c.args.absolute path (segment ∷ []) p) (sym pushed)
    (subst (λ (a : Bool). Adds a path (segment ∷ []) (with_separator a path ++ segment)) (sym c.if-absolute.false)
    (adds_upward path segment ends upward)))
    c.push_segment.ensures
