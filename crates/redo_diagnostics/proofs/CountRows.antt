-- Rows of counts of keys.
use Rattle.std.proofs.Common.{◌≡◌, ℕ, List, [], ◌∷◌, refl, arith}
use Rattle.std.specs.Prelude.{codes}
use Rattle.redo_diagnostics.specs.Counts.{AreCounts, count_in, numbered_keys, stored, times_of}

abbrev a : List ℕ
a = codes "a"

abbrev b : List ℕ
b = codes "b"

abbrev keys : List (List ℕ)
keys = a ∷ b ∷ a ∷ [] ∷ codes "ab" ∷ a ∷ []

these_numbers : numbered_keys keys ≡ (a, 0) ∷ (b, 0) ∷ (a, 1) ∷ ([], 0) ∷ (codes "ab", 0) ∷ (a, 2) ∷ []
these_numbers = refl

more_numbers : numbered_keys (a ∷ b ∷ a ∷ [] ∷ a ∷ b ∷ [] ∷ []) ≡ (a, 0) ∷ (b, 0) ∷ (a, 1) ∷ ([], 0) ∷ (a, 2) ∷ (b, 1) ∷ ([], 1) ∷ []
more_numbers = refl

these_times : (times_of a keys ≡ 3) × (times_of b keys ≡ 1) × (times_of (codes "c") keys ≡ 0)
these_times = (refl, refl, refl)

these_stored : (stored 7 ≡ 7) × (stored 18446744073709551615 ≡ 18446744073709551615) × (stored 18446744073709551616 ≡ 18446744073709551615)
these_stored = (refl, refl, refl)

these_counts : (count_in a ((b, 4) ∷ (a, 3) ∷ []) ≡ 3) × (count_in (codes "ab") ((b, 4) ∷ (a, 3) ∷ []) ≡ 0)
these_counts = (refl, refl)

not_counted : AreCounts [] (a ∷ []) → ⊥
not_counted are = not_one 0 refl (are a)
  where
    not_one : (n : ℕ) → n ≡ 0 → n ≡ 1 → ⊥
    not_one n zero one = omega (arith, zero, one)
