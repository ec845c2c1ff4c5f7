use Rattle.std.proofs.Common.{◌≡◌, ℕ, suc, ◌+◌, ◌<◌, List, ◌∷◌, [], ◌++◌, length, map, take, drop, get_or, slice_set, sym, ◌∙◌, ap, arith}
use Rattle.std.proofs.Math.Seq.{drop-cons, get_or-append_seam, set-append_seam, take-suc}
use Rattle.std.proofs.lemmas.List.{append_assoc, length-map, length-take, map-append}
use Rattle.redo_outline.specs.declared.node.Node.{Node}
use Rattle.redo_outline.specs.Outline.{with_times}
use Rattle.redo_outline.proofs.Nodes.{no_node}
use Rattle.redo_outline.proofs.outline.set_times.Goals as goal

-- A function changed the first `i` of these nodes.
module _ (f : Node → Node) (nodes done : List Node) (i : ℕ) (below : i < length nodes)
    (so_far : done ≡ map f (take i nodes) ++ drop i nodes) where
  abbrev changed : List Node
  changed = map f (take i nodes)

  abbrev next : Node
  next = get_or nodes i no_node

  count : length (map f (take i nodes)) ≡ i
  count = length-map (take i nodes) f ∙ (let taken = length-take i nodes in omega (arith, taken, below))

  split : done ≡ changed ++ next ∷ drop (suc i) nodes
  split = so_far ∙ ap (λ (r : List Node). changed ++ r) (drop-cons nodes i no_node below)

  pub here : get_or done i no_node ≡ get_or nodes i no_node
  here = ap (λ (l : List Node). get_or l i no_node) split
      ∙ ap (λ (n : ℕ). get_or (changed ++ next ∷ drop (suc i) nodes) n no_node) (sym count)
      ∙ get_or-append_seam changed next (drop (suc i) nodes) no_node

  pub one_more : (node : Node) → node ≡ f (get_or nodes i no_node)
      → slice_set done i node ≡ map f (take (i + 1) nodes) ++ drop (i + 1) nodes
  one_more node is =
      ap (λ (l : List Node). slice_set l i node) split ∙ ap (λ (n : ℕ). slice_set (changed ++ next ∷ drop (suc i) nodes) n node) (sym count)
      ∙ set-append_seam changed next (drop (suc i) nodes) node
      ∙ ap (λ (v : Node). changed ++ v ∷ drop (suc i) nodes) is
      ∙ sym (append_assoc changed (f next ∷ []) (drop (suc i) nodes))
      ∙ ap (λ (l : List Node). l ++ drop (suc i) nodes) (sym (map-append f (take i nodes) (next ∷ [])))
      ∙ ap (λ (l : List Node). map f l ++ drop (suc i) nodes) (sym (take-suc nodes i no_node below))
      ∙ (let same : suc i ≡ i + 1 = omega arith in ap (λ (n : ℕ). map f (take n nodes) ++ drop n nodes) same)

pub loop-position-preserved : goal.loop-position-preserved
loop-position-preserved c =
    let times = c.args.times.now in
    let nodes = c.args.nodes.now in
    let done = c.loop-position.nodes in
    let i = c.loop-position.position in
    let below : i < length nodes = omega arith in
    one_more (with_times times) nodes done i below c.loop-position.invariant _
    (c.with_times.ensures ∙ ap (with_times times) (here (with_times times) nodes done i below c.loop-position.invariant))
