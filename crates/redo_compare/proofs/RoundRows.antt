-- Rows of what is new since earlier diagnostics. A program in another language gave the expected values.
use Rattle.std.proofs.Common.{◌≡◌, ℕ, ◌≤◌, Bool, true, false, cond, List, [], ◌∷◌, length, map, refl, arith}
use Rattle.std.specs.Prelude.{codes}
use Rattle.std.specs.List.{AllByRecursion, IsDistinct}
use Rattle.redo_diagnostics.specs.declared.severity.Severity.TheVariants.{Error}
use Rattle.redo_line.specs.declared.entry.Entry.TheVariants.{Text}
use Rattle.redo_logs.specs.Logs.{IsTable, Log}
use Rattle.redo_logs.specs.declared.log_state.LogState.TheVariants.{Ended}
use Rattle.std.specs.Str.{bytes_eq}
use Rattle.redo_compare.specs.Laws.{IsPart, key_count}
use Rattle.redo_compare.specs.Laws.IsPart.{none, kept, dropped}
use Rattle.redo_compare.specs.Occurrences.{OccurrenceValue}
use Rattle.redo_compare.specs.Rounds.{left_after, new_since, occurs, picked, same_key, same_source, unknown_in, without}

record Row : Type 0 where
  earlier : List OccurrenceValue
  now : List OccurrenceValue
  new : List OccurrenceValue

-- A diagnostic with the key `k`.
abbrev k : ℕ → List ℕ → OccurrenceValue
k line source = record { line = line; severity = Error; key = codes "k"; source = source }

abbrev j : ℕ → List ℕ → OccurrenceValue
j line source = record { line = line; severity = Error; key = codes "j"; source = source }

abbrev a : List ℕ
a = codes "a"

abbrev b : List ℕ
b = codes "b"

abbrev c : List ℕ
c = codes "c"

abbrev HasNew : Row → Type 0
HasNew row = new_since row.earlier row.now ≡ row.new

abbrev logs : List Row
logs =
    record { earlier = []; now = []; new = [] } ∷
    record { earlier = []; now = k 0 a ∷ j 1 a ∷ []; new = k 0 a ∷ j 1 a ∷ [] } ∷
    record { earlier = k 0 a ∷ []; now = []; new = [] } ∷
    record { earlier = k 0 a ∷ []; now = k 7 a ∷ []; new = [] } ∷
    record { earlier = k 0 a ∷ []; now = k 0 a ∷ k 1 a ∷ []; new = k 1 a ∷ [] } ∷
    record { earlier = j 0 a ∷ []; now = k 0 a ∷ []; new = k 0 a ∷ [] } ∷
    record { earlier = k 0 a ∷ k 1 b ∷ []; now = k 0 c ∷ k 1 a ∷ k 2 b ∷ []; new = k 0 c ∷ [] } ∷
    record { earlier = k 0 a ∷ []; now = k 0 b ∷ []; new = [] } ∷
    record { earlier = k 0 a ∷ []; now = k 0 b ∷ k 1 c ∷ []; new = k 1 c ∷ [] } ∷
    record { earlier = k 0 a ∷ k 1 a ∷ []; now = k 0 b ∷ k 1 a ∷ k 2 c ∷ j 3 [] ∷ []; new = k 2 c ∷ j 3 [] ∷ [] } ∷
    record { earlier = k 0 b ∷ k 1 a ∷ []; now = k 0 a ∷ k 1 a ∷ k 2 b ∷ []; new = k 1 a ∷ [] } ∷
    []

these_new : AllByRecursion HasNew logs
these_new = (refl, (refl, (refl, (refl, (refl, (refl, (refl, (refl, (refl, (refl, (refl, tt)))))))))))

these_same : (same_key (k 0 a) (k 1 b) ≡ true) × (same_key (k 0 a) (j 0 a) ≡ false) × (same_source (k 0 a) (k 1 a) ≡ true)
    × (same_source (k 0 a) (k 0 b) ≡ false) × (same_source (k 0 a) (j 0 a) ≡ false)
these_same = (refl, refl, refl, refl, refl)

these_left : (occurs same_source (k 3 b) (k 0 a ∷ k 1 b ∷ []) ≡ true) × (occurs same_source (k 3 c) (k 0 a ∷ k 1 b ∷ []) ≡ false)
    × (without same_source (k 3 b) (k 0 a ∷ k 1 b ∷ k 2 b ∷ []) ≡ k 0 a ∷ k 2 b ∷ [])
    × (without same_source (k 3 c) (k 0 a ∷ k 1 b ∷ []) ≡ k 0 a ∷ k 1 b ∷ [])
    × (left_after same_source (k 0 a ∷ k 1 b ∷ k 2 b ∷ []) (k 3 b ∷ k 4 c ∷ []) ≡ k 0 a ∷ k 2 b ∷ [])
    × (unknown_in same_source (k 0 a ∷ k 1 b ∷ k 2 b ∷ []) (k 3 b ∷ k 4 c ∷ k 5 a ∷ k 6 a ∷ []) ≡ k 4 c ∷ k 6 a ∷ [])
these_left = (refl, refl, refl, refl, refl, refl)

these_picked : (picked (true ∷ false ∷ true ∷ []) (a ∷ b ∷ c ∷ []) ≡ a ∷ c ∷ []) × (picked (true ∷ []) (a ∷ b ∷ []) ≡ a ∷ [])
    × (picked (true ∷ true ∷ []) (a ∷ []) ≡ a ∷ [])
these_picked = (refl, refl, refl)

-- For the laws: a part is no longer than the whole, and a key occurs as often in another place.
shorter : {some all : List OccurrenceValue} → IsPart some all → length some ≤ length all
shorter none = omega arith
shorter (kept one part) = let rest = shorter part in omega (arith, rest)
shorter (dropped one part) = let rest = shorter part in omega (arith, rest)

as_many : (key : List ℕ) → key_count key (k 1 b ∷ []) ≤ key_count key (k 0 a ∷ [])
as_many key = by (bytes_eq (codes "k") key)
  where
    by : (is : Bool) → length (cond is (k 1 b ∷ []) []) ≤ length (cond is (k 0 a ∷ []) [])
    by true = omega arith
    by false = omega arith

-- A log with these lines, and a build of two targets.
abbrev log_of : List ℕ → List (List ℕ) → Log
log_of target lines = record { target = target; entries = map Text lines; state = Ended }

abbrev error_x : List ℕ
error_x = codes "error: x"

two_logs : (one other : List (List ℕ)) → IsTable (log_of a one ∷ log_of b other ∷ [])
unfolding IsDistinct
two_logs one other = record { size = omega arith; targets_differ = ((refl, tt), (tt, tt)) }
