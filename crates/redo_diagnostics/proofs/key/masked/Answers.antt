use Rattle.std.proofs.Common.{◌++◌, ◌-◌, [], ◌∷◌, length, take, drop, sym, ◌∙◌, ap, arith}
use Rattle.std.specs.Prelude.{codes}
use Rattle.std.proofs.lemmas.List.{length-drop, length-take, take_rest}
use Rattle.redo_name.specs.Names.{slash}
use Rattle.redo_diagnostics.specs.Diagnostic.{masked}
use Rattle.redo_diagnostics.proofs.KeyLemmas.{appended, masked-name, masked-rest, masked-slash, shorter}
use Rattle.redo_diagnostics.proofs.key.masked.Goals as goal

pub slashes-smaller-then-begins_temporary : goal.slashes-smaller-then-begins_temporary
slashes-smaller-then-begins_temporary c =
    let less = shorter slash c.slashes.left.now (c.in-Some.front.now, c.in-Some.behind.now) c.in-Some.ensures.some in
    let kept = length-take (length c.in-Some.behind.now - 8) (drop 8 c.in-Some.behind.now) in
    let cut = length-drop 8 c.in-Some.behind.now in omega (arith, less, kept, cut)

pub slashes-preserved-then-begins_temporary : goal.slashes-preserved-then-begins_temporary
slashes-preserved-then-begins_temporary c =
    appended c.slashes.key.items c.extend_from_slice.new.self.items c.extend_from_slice-then-begins_temporary.new.self.items
    c.in-Some.front.now (codes "/cc*") (masked (take (length c.in-Some.behind.now - 8) (drop 8 c.in-Some.behind.now)))
    (masked c.slashes.left.now) (masked c.args.text.now)
    c.in_ok-extend_from_slice.ensures.items c.in_ok-extend_from_slice-2.ensures.items
    (masked-name c.slashes.left.now c.in-Some.front.now c.in-Some.behind.now c.in-Some.ensures.some
    (sym c.begins_temporary.ensures ∙ c.if-begins_temporary.true)
    ∙ ap (λ bytes. c.in-Some.front.now ++ (codes "/cc*" ++ masked bytes)) (sym (take_rest c.in-Some.behind.now 8)))
    c.slashes.invariant

pub slashes-smaller : goal.slashes-smaller
slashes-smaller c = shorter slash c.slashes.left.now (c.in-Some.front.now, c.in-Some.behind.now) c.in-Some.ensures.some

pub slashes-preserved : goal.slashes-preserved
slashes-preserved c =
    appended c.slashes.key.items c.extend_from_slice.new.self.items c.push.new.self.items
    c.in-Some.front.now (slash ∷ []) (masked c.in-Some.behind.now) (masked c.slashes.left.now) (masked c.args.text.now)
    c.in_ok-extend_from_slice.ensures.items c.in_ok-push.ensures.items
    (masked-slash c.slashes.left.now c.in-Some.front.now c.in-Some.behind.now c.in-Some.ensures.some
    (sym c.begins_temporary.ensures ∙ c.if-begins_temporary.false))
    c.slashes.invariant

pub returns : goal.returns
returns c = c.in_ok-extend_from_slice-3.ensures.items
    ∙ ap (λ bytes. c.slashes.key.items ++ bytes) (sym (masked-rest c.slashes.left.now c.in_default.ensures.none)) ∙ c.slashes.invariant
