-- How many diagnostics are left of each kind: of each key and source line.
use Rattle.std.specs.Prelude.{◌≡◌, ℕ, ◌&&◌, Bool, List, [], if◌then◌else◌, unwrap_or}
use Rattle.std.specs.Map.{lookup}
use Rattle.std.specs.Str.{bytes_eq}
use Rattle.redo_compare.specs.Laws.{key_count, kind_count}
use Rattle.redo_compare.specs.Occurrences.{OccurrenceValue}

-- Whether two kinds are the same.
abbrev pub same_kind : List ℕ × List ℕ → List ℕ × List ℕ → Bool
same_kind one other = bytes_eq one.0 other.0 && bytes_eq one.1 other.1

-- The number of a kind in a map; 0 if the map doesn't have it.
abbrev pub count_in : List ℕ × List ℕ → List ((List ℕ × List ℕ) × ℕ) → ℕ
count_in kind counts = unwrap_or (lookup (same_kind kind) counts) 0

abbrev pub one_if : Bool → ℕ
one_if is = if is then 1 else 0

-- Whether these are the numbers of the diagnostics that are left, by key and source line.
abbrev pub CountBySource : List ((List ℕ × List ℕ) × ℕ) → List OccurrenceValue → Type 0
CountBySource counts left = (key source : List ℕ) → count_in (key, source) counts ≡ kind_count key source left

-- Whether these are the numbers of the diagnostics that are left, by key.
abbrev pub CountByKey : List ((List ℕ × List ℕ) × ℕ) → List OccurrenceValue → Type 0
CountByKey counts left = (key : List ℕ) → count_in (key, []) counts ≡ key_count key left
