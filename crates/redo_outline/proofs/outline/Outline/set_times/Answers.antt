use Rattle.std.proofs.Common.{◌≡◌, ℕ, ◌+◌, List, [], ◌∷◌, ◌++◌, Option, Some, None, length, map, position, take, drop, cond, get_or, refl, sym, ◌∙◌, ap, arith}
use Rattle.std.specs.Prelude.{Bool, ◌==◌}
use Rattle.std.specs.List.{position_from}
use Rattle.std.proofs.lemmas.Iterator.Adapters.{position_from-zero}
use Rattle.std.proofs.Math.Seq.{take-append_seam}
use Rattle.redo_outline.specs.declared.node.Node.{Node}
use Rattle.redo_outline.specs.declared.node.RunTimes.{RunTimes}
use Rattle.redo_outline.specs.Outline.{with_times}
use Rattle.redo_outline.proofs.outline.Outline.set_times.Goals as goal

abbrev has_number : ℕ → Node → Bool
has_number number node = node.number == number

same_from : (times : List RunTimes) (number start : ℕ) (nodes : List Node)
    → position_from (has_number number) start (map (with_times times) nodes) ≡ position_from (has_number number) start nodes
same_from times number start [] = refl
same_from times number start (node ∷ nodes) =
    ap (λ (found : Option ℕ). cond (node.number == number) (Some start) found) (same_from times number (start + 1) nodes)

same_position : (times : List RunTimes) (number : ℕ) (nodes : List Node)
    → position (has_number number) (map (with_times times) nodes) ≡ position (has_number number) nodes
same_position times number nodes =
    position_from-zero (has_number number) (map (with_times times) nodes) ∙ same_from times number 0 nodes
    ∙ sym (position_from-zero (has_number number) nodes)

pub invariant_of-self : goal.invariant_of-self
invariant_of-self c = λ number.
    let nodes = c.self.inside.nodes.items in
    let new = c.set_times.new.nodes in
    let after = drop (length new) nodes in
    let are : new ≡ map (with_times c.args.times.now) nodes =
    c.set_times.ensures ∙ ap (map (with_times c.args.times.now)) c.as_mut_slice.ensures.value in
    let len = c.as_mut_slice.ensures.len in
    let kept = c.set_times.auto.nodes in
    let same : c.self.inside.nodes.len ≡ length new = omega arith in
    let old : get_or c.self.inside.positions.items number None ≡ position (has_number number) nodes = c.self.invariant number in
    old ∙ sym (ap (λ (n : ℕ). position (has_number number) (take n (new ++ after))) same
    ∙ ap (position (has_number number)) (take-append_seam new after ∙ are) ∙ same_position c.args.times.now number nodes)
