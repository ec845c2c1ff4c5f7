-- The diagnostics of a log whose last line may be one, and its lines.
use Rattle.std.specs.Prelude.{◌≡◌, ℕ, Bool, List, [], ◌∷◌, ◌++◌, length, if◌then◌else◌}
use Rattle.redo_outline.specs.TextLines.{LinesLeft}
use Rattle.redo_compare.specs.Occurrences.{FoundValue, IsFoundIn, OccurrenceValue}

-- The same diagnostics, but the last one has this source line.
abbrev pub with_last_source : List ℕ → List OccurrenceValue → List OccurrenceValue
with_last_source source [] = []
with_last_source source (one ∷ []) = record one { source = source } ∷ []
with_last_source source (one ∷ next ∷ others) = one ∷ with_last_source source (next ∷ others)

abbrev pub with_source_if : Bool → List ℕ → List OccurrenceValue → List OccurrenceValue
with_source_if is_last source occurrences = if is_last then with_last_source source occurrences else occurrences

-- `found` are the diagnostics of the lines before those that are left. All of them together are `all`.
pub record IsFoundBefore (all : List (List ℕ)) (lines : LinesLeft) (found : FoundValue) : Type 0 where
  pub before : List (List ℕ)
  pub whole : all ≡ before ++ lines.left
  pub count : lines.done ≡ length before
  pub is : IsFoundIn before found
