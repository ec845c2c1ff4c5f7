-- The nodes of logs that are opened, at their positions.
use Rattle.std.proofs.Common.{◌≡◌, ℕ, suc, ◌+◌, ℤ, List, [], ◌∷◌, ◌++◌, Option, Some, length, slice_get, refl, sym, ap, ◌∙◌, arith, append_assoc}
use Rattle.std.proofs.lemmas.List.{length-append}
use Rattle.redo_logs.specs.Logs.{Log}
use Rattle.redo_view.specs.Event.{Event}
use Rattle.redo_outline.specs.declared.node.Node.{Node}
use Rattle.redo_outline.specs.Contents.{Contents}
use Rattle.redo_outline.specs.Contents.Contents.{Nothing, Shown, Opened}
use Rattle.redo_outline.specs.Outline.{log_count, node_of, nodes_of}

-- The item after some others.
item_after : {A : Type 0} (before : List A) (one : A) (after : List A) → slice_get (before ++ one ∷ after) (length before) ≡ Some one
item_after [] one after = refl
item_after (first ∷ before) one after = item_after before one after

module _ (logs : List Log) (status : ℕ → Option ℤ) where
  abbrev pub nodes_in : Option ℕ → ℕ → Contents → List Node
  nodes_in parent position contents = nodes_of logs status parent position contents

  count_is : (parent : Option ℕ) (position : ℕ) (contents : Contents) → length (nodes_in parent position contents) ≡ log_count contents
  count_is parent position Nothing = refl
  count_is parent position (Shown event rest) = count_is parent position rest
  count_is parent position (Opened event number inside rest) =
      let inner = count_is (Some position) (suc position) inside in
      let outer = count_is parent (suc position + log_count inside) rest in
      let both = length-append (nodes_in (Some position) (suc position) inside) (nodes_in parent (suc position + log_count inside) rest) in
      omega (arith, inner, outer, both)

  -- The nodes of contents that begin with a log are within all nodes: `before` are the nodes before them, and `after` the nodes after them.
  module _ (all before after : List Node) (parent : Option ℕ) (position number : ℕ) (event : Event) (inside rest : Contents)
      (whole : all ≡ before ++ (nodes_in parent position (Opened event number inside rest) ++ after)) (counted : length before ≡ position)
    where
      abbrev pub one : Node
      one = node_of logs status parent number inside rest

      abbrev pub inner : List Node
      inner = nodes_in (Some position) (suc position) inside

      abbrev pub outer : List Node
      outer = nodes_in parent (suc position + log_count inside) rest

      -- The nodes before the nodes of the logs in it.
      abbrev pub first : List Node
      first = before ++ one ∷ []

      -- The nodes before those after it.
      abbrev pub both : List Node
      both = first ++ inner

      pub first_count : length first ≡ suc position
      first_count = omega (arith, length-append before (one ∷ []), counted)

      pub both_count : length both ≡ suc position + log_count inside
      both_count = omega (arith, length-append first inner, first_count, count_is (Some position) (suc position) inside)

      pub split_first : all ≡ first ++ (inner ++ (outer ++ after))
      split_first =
          whole ∙ ap (λ (l : List Node). before ++ one ∷ l) (append_assoc inner outer after)
          ∙ sym (append_assoc before (one ∷ []) (inner ++ (outer ++ after)))

      pub split_both : all ≡ both ++ (outer ++ after)
      split_both = split_first ∙ sym (append_assoc first inner (outer ++ after))

      pub node_here : slice_get all position ≡ Some one
      node_here =
          ap (λ (n : ℕ). slice_get all n) (sym counted) ∙ ap (λ (l : List Node). slice_get l (length before)) whole
          ∙ item_after before one ((inner ++ outer) ++ after)
