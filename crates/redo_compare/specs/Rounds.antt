-- What is new in a log since an earlier one.
use Rattle.std.specs.Prelude.{Bool, true, false, ◌&&◌, List, [], ◌∷◌, if◌then◌else◌}
use Rattle.std.specs.List.{list_any}
use Rattle.std.specs.Str.{bytes_eq}
use Rattle.redo_compare.specs.Occurrences.{OccurrenceValue}

-- Whether two diagnostics have the same key.
abbrev pub same_key : OccurrenceValue → OccurrenceValue → Bool
same_key one other = bytes_eq one.key other.key

-- Whether they have the same source line, too.
abbrev pub same_source : OccurrenceValue → OccurrenceValue → Bool
same_source one other = bytes_eq one.key other.key && bytes_eq one.source other.source

module _ (same : OccurrenceValue → OccurrenceValue → Bool) where
  -- Whether the same diagnostic is left.
  abbrev pub occurs : OccurrenceValue → List OccurrenceValue → Bool
  occurs one left = list_any (same one) left

  -- What is left without the first diagnostic that is the same.
  abbrev pub without : OccurrenceValue → List OccurrenceValue → List OccurrenceValue
  without one [] = []
  without one (other ∷ left) = if same one other then left else other ∷ without one left

  -- A round: in order, a diagnostic is known if the same one is left, which is removed. These are the diagnostics that aren't known.
  abbrev pub unknown_in : List OccurrenceValue → List OccurrenceValue → List OccurrenceValue
  unknown_in left [] = []
  unknown_in left (one ∷ others) =
      if occurs one left then unknown_in (without one left) others else one ∷ unknown_in left others

  -- What is left after a round.
  abbrev pub left_after : List OccurrenceValue → List OccurrenceValue → List OccurrenceValue
  left_after left [] = left
  left_after left (one ∷ others) = left_after (without one left) others

-- The diagnostics that are new since the earlier ones: those that are neither known by key and source line, nor then by the key alone.
abbrev pub new_since : List OccurrenceValue → List OccurrenceValue → List OccurrenceValue
new_since earlier now = unknown_in same_key (left_after same_source earlier now) (unknown_in same_source earlier now)

-- The items whose flags are set.
abbrev pub picked : {X : Type 0} → List Bool → List X → List X
picked [] items = []
picked (flag ∷ flags) [] = []
picked (true ∷ flags) (item ∷ items) = item ∷ picked flags items
picked (false ∷ flags) (item ∷ items) = picked flags items
