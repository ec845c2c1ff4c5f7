-- The positions of logs, by their numbers.
use Rattle.std.specs.Prelude.{◌≡◌, ℕ, Bool, ◌==◌, List, Option, None, Some, position, slice_index_or, if◌then◌else◌}
use Rattle.std.specs.Option.{option_or}
use Rattle.redo_outline.specs.declared.node.Node.{Node}

-- Whether these are the positions of the first node of each log.
abbrev pub AreNodePositions : List Node → List (Option ℕ) → Type 0
AreNodePositions nodes positions = (number : ℕ) → slice_index_or positions number None ≡ position (λ (node : Node). node.number == number) nodes

abbrev pub position_if : Bool → ℕ → Option ℕ
position_if condition position = if condition then Some position else None

-- Whether log `number` has this position if it had none, and each other log has the position that it had.
abbrev pub IsPositionSet : ℕ → ℕ → List (Option ℕ) → List (Option ℕ) → Type 0
IsPositionSet number position old new =
    (other : ℕ) → slice_index_or new other None ≡ option_or (slice_index_or old other None) (position_if (number == other) position)
