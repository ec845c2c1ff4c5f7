-- Definitions that state the laws about what is new.
use Rattle.std.specs.Prelude.{ℕ, ◌&&◌, List, [], ◌∷◌, filter, length}
use Rattle.std.specs.Str.{bytes_eq}
use Rattle.redo_compare.specs.Occurrences.{OccurrenceValue}

-- How many of these diagnostics have this key.
abbrev pub key_count : List ℕ → List OccurrenceValue → ℕ
key_count key occurrences = length (filter (λ (one : OccurrenceValue). bytes_eq one.key key) occurrences)

-- How many of these diagnostics have this key and this source line.
abbrev pub kind_count : List ℕ → List ℕ → List OccurrenceValue → ℕ
kind_count key source occurrences =
    length (filter (λ (one : OccurrenceValue). bytes_eq one.key key && bytes_eq one.source source) occurrences)

-- Whether the first list has some diagnostics of the second one, in the same order.
pub data IsPart : List OccurrenceValue → List OccurrenceValue → Type 0 where
  none : IsPart [] []
  kept : (one : OccurrenceValue) {some all : List OccurrenceValue} → IsPart some all → IsPart (one ∷ some) (one ∷ all)
  dropped : (one : OccurrenceValue) {some all : List OccurrenceValue} → IsPart some all → IsPart some (one ∷ all)
