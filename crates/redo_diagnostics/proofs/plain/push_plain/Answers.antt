use Rattle.std.proofs.Common.{◌++◌, ◌-◌, [], ◌∷◌, length, take, drop, sym, ◌∙◌, ap, arith}
use Rattle.std.proofs.lemmas.List.{length-drop, length-take}
use Rattle.redo_diagnostics.specs.Plain.{plain_line}
use Rattle.redo_diagnostics.proofs.KeyLemmas.{appended, appended_once, shorter}
use Rattle.redo_diagnostics.proofs.PlainLemmas.{escape, front_within, plain-escape, plain-rest, plain-sequence, within}
use Rattle.redo_diagnostics.proofs.plain.push_plain.Goals as goal

pub slice_bounds-sequence_size-count : goal.slice_bounds-sequence_size-count
slice_bounds-sequence_size-count c =
    front_within c.escapes.left.now c.in-Some.front.now c.in-Some.behind.now c.in-Some.ensures.some

pub slice_bounds-sequence_size-start : goal.slice_bounds-sequence_size-start
slice_bounds-sequence_size-start c =
    let within = front_within c.escapes.left.now c.in-Some.front.now c.in-Some.behind.now c.in-Some.ensures.some in omega (arith, within)

pub slice_bounds-left-count : goal.slice_bounds-left-count
slice_bounds-left-count c =
    within c.escapes.left.now c.in-Some.front.now c.in-Some.behind.now c.in-Some.ensures.some
    c.sequence_size-length.result c.sequence_size-length.ensures c.if-length-gt0.true

pub slice_bounds-left-start : goal.slice_bounds-left-start
slice_bounds-left-start c =
    let inside = within c.escapes.left.now c.in-Some.front.now c.in-Some.behind.now c.in-Some.ensures.some
    c.sequence_size-length.result c.sequence_size-length.ensures c.if-length-gt0.true in omega (arith, inside)

pub escapes-smaller-then-length-gt0 : goal.escapes-smaller-then-length-gt0
escapes-smaller-then-length-gt0 c =
    let count = c.sequence_size-length.result - 1 in
    let behind = c.in-Some.behind.now in
    let less = shorter escape c.escapes.left.now (c.in-Some.front.now, behind) c.in-Some.ensures.some in
    let kept = length-take (length behind - count) (drop count behind) in
    let cut = length-drop count behind in omega (arith, less, kept, cut)

pub escapes-preserved-then-length-gt0 : goal.escapes-preserved-then-length-gt0
escapes-preserved-then-length-gt0 c =
    let count = c.sequence_size-length.result - 1 in
    let behind = c.in-Some.behind.now in
    appended_once c.escapes.plain.items c.extend_from_slice.new.self.items c.in-Some.front.now
    (plain_line (take (length behind - count) (drop count behind)))
    (plain_line c.escapes.left.now) (c.args.plain.now.items ++ plain_line c.args.line.now)
    c.in_ok-extend_from_slice.ensures.items
    (plain-sequence c.escapes.left.now c.in-Some.front.now behind c.in-Some.ensures.some c.sequence_size-length.result
    c.sequence_size-length.ensures c.if-length-gt0.true)
    c.escapes.invariant

pub escapes-smaller : goal.escapes-smaller
escapes-smaller c = shorter escape c.escapes.left.now (c.in-Some.front.now, c.in-Some.behind.now) c.in-Some.ensures.some

pub escapes-preserved : goal.escapes-preserved
escapes-preserved c =
    let none = c.if-length-gt0.false in
    appended c.escapes.plain.items c.extend_from_slice.new.self.items c.push.new.self.items
    c.in-Some.front.now (escape ∷ []) (plain_line c.in-Some.behind.now) (plain_line c.escapes.left.now)
    (c.args.plain.now.items ++ plain_line c.args.line.now)
    c.in_ok-extend_from_slice.ensures.items c.in_ok-push.ensures.items
    (plain-escape c.escapes.left.now c.in-Some.front.now c.in-Some.behind.now c.in-Some.ensures.some c.sequence_size-length.result
    c.sequence_size-length.ensures (omega (arith, none)))
    c.escapes.invariant

pub returns : goal.returns
returns c = c.in_ok-extend_from_slice-2.ensures.items
    ∙ ap (λ bytes. c.escapes.plain.items ++ bytes) (sym (plain-rest c.escapes.left.now c.in_default.ensures.none)) ∙ c.escapes.invariant
