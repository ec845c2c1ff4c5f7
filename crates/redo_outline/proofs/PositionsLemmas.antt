-- The position of the first node of each log.
use Rattle.std.proofs.Common.{◌≡◌, ℕ, ◌+◌, ◌<◌, Bool, true, false, List, [], ◌∷◌, ◌++◌, Option, Some, cond, get_or, length, take, refl, sym, ap, ◌∙◌, arith}
use Rattle.std.specs.Prelude.{◌==◌, position}
use Rattle.std.specs.List.{position_from}
use Rattle.std.specs.Option.{option_or}
use Rattle.std.proofs.lemmas.Iterator.Adapters.{position_from-zero}
use Rattle.std.proofs.lemmas.List.{length-take-le, take_more}
use Rattle.redo_outline.specs.declared.node.Node.{Node}
use Rattle.redo_outline.specs.Private.Positions.{AreNodePositions, IsPositionSet, position_if}
use Rattle.redo_outline.proofs.Nodes.{no_node}

-- The first position, with one more item at the end.
from-last : {A : Type 0} (test : A → Bool) (xs : List A) (x : A) (start : ℕ)
    → position_from test start (xs ++ x ∷ []) ≡ option_or (position_from test start xs) (position_if (test x) (start + length xs))
from-last test [] x start = ap (λ (position : ℕ). position_if (test x) position) (omega arith)
from-last test (y ∷ xs) x start = by (test y) (from-last test xs x (start + 1))
  where
    by : (b : Bool) → position_from test (start + 1) (xs ++ x ∷ [])
        ≡ option_or (position_from test (start + 1) xs) (position_if (test x) (start + 1 + length xs))
        → cond b (Some start) (position_from test (start + 1) (xs ++ x ∷ []))
        ≡ option_or (cond b (Some start) (position_from test (start + 1) xs)) (position_if (test x) (start + length (y ∷ xs)))
    by true later = refl
    by false later = later ∙ ap (λ (position : ℕ). option_or (position_from test (start + 1) xs) (position_if (test x) position))
        (omega arith)

position-last : {A : Type 0} (test : A → Bool) (xs : List A) (x : A)
    → position test (xs ++ x ∷ []) ≡ option_or (position test xs) (position_if (test x) (length xs))
position-last test xs x =
    position_from-zero test (xs ++ x ∷ []) ∙ from-last test xs x 0
    ∙ ap (λ (position : ℕ). option_or (position_from test 0 xs) (position_if (test x) position)) (omega arith)
    ∙ ap (λ position. option_or position (position_if (test x) (length xs))) (sym (position_from-zero test xs))

pub positions_none : AreNodePositions [] []
positions_none number = refl

pub positions_more : (nodes : List Node) (k : ℕ) (old new : List (Option ℕ)) → k < length nodes → AreNodePositions (take k nodes) old
    → IsPositionSet (get_or nodes k no_node).number k old new → AreNodePositions (take (k + 1) nodes) new
positions_more nodes k old new below so_far set number =
    let node = get_or nodes k no_node in
    set number ∙ ap (λ position. option_or position (position_if (node.number == number) k)) (so_far number)
    ∙ ap (λ (n : ℕ). option_or (position (λ (other : Node). other.number == number) (take k nodes)) (position_if (node.number == number) n))
    (sym (length-take-le k nodes (omega (arith, below))))
    ∙ sym (position-last (λ (other : Node). other.number == number) (take k nodes) node)
    ∙ ap (position (λ (other : Node). other.number == number)) (sym (take_more nodes k no_node below))
