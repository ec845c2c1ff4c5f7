-- Rows of times and their values in milliseconds.
use Rattle.std.proofs.Common.{◌≡◌, ℕ, List, [], ◌∷◌, Option, None, Some, arith, refl}
use Rattle.std.specs.Prelude.{codes}
use Rattle.std.specs.List.{AllByRecursion}
use Rattle.redo_line.specs.Decimal.{number}
use Rattle.redo_line.specs.Parts.{split_once}
use Rattle.redo_times.specs.Time.{IsInRange, time_value}

record Row : Type 0 where
  time : List ℕ
  value : Option ℕ

abbrev counts : List ℕ → ℕ → Row
counts time value = record { time = time; value = Some value }

abbrev ignored : List ℕ → Row
ignored time = record { time = time; value = None }

-- Fractions of 0 to 9 decimals.
abbrev fractions : List Row
fractions =
    counts (codes "1700000000") 1700000000000 ∷
    counts (codes "1700000000.1") 1700000000100 ∷
    counts (codes "1700000000.12") 1700000000120 ∷
    counts (codes "1700000000.123") 1700000000123 ∷
    counts (codes "1700000000.1234") 1700000000123 ∷
    counts (codes "1700000000.12345") 1700000000123 ∷
    counts (codes "1700000000.123456") 1700000000123 ∷
    counts (codes "1700000000.1234567") 1700000000123 ∷
    counts (codes "1700000000.12345678") 1700000000123 ∷
    counts (codes "1700000000.123456789") 1700000000123 ∷
    counts (codes "1700000000.05") 1700000000050 ∷
    counts (codes "1700000000.007") 1700000000007 ∷
    counts (codes "1700000000.9999") 1700000000999 ∷
    counts (codes "1700000000.000000000") 1700000000000 ∷
    []

these_fractions : AllByRecursion (λ row. time_value row.time ≡ row.value) fractions
unfolding time_value split_once number
these_fractions = (refl, (refl, (refl, (refl, (refl, (refl, (refl, (refl, (refl, (refl, (refl, (refl, (refl, (refl, tt))))))))))))))

-- Seconds that are too few or too many, and 20 digits. 18446744075409551616 is 2^64 + 1700000000.
abbrev seconds : List Row
seconds =
    counts (codes "1000000000") 1000000000000 ∷
    counts (codes "9999999999.999") 9999999999999 ∷
    counts (codes "00000000001700000000.5") 1700000000500 ∷
    ignored (codes "999999999") ∷
    ignored (codes "999999999.999") ∷
    ignored (codes "10000000000") ∷
    ignored (codes "0") ∷
    ignored (codes "1.0000") ∷
    ignored (codes "00000000000999999999") ∷
    ignored (codes "99999999999999999999") ∷
    ignored (codes "18446744075409551616") ∷
    []

these_seconds : AllByRecursion (λ row. time_value row.time ≡ row.value) seconds
unfolding time_value split_once number
these_seconds = (refl, (refl, (refl, (refl, (refl, (refl, (refl, (refl, (refl, (refl, (refl, tt)))))))))))

in_range : IsInRange 1000000000000 × IsInRange 9999999999999
in_range = ((omega arith, omega arith), (omega arith, omega arith))

not_in_range : (IsInRange 999999999999 → ⊥) × (IsInRange 10000000000000 → ⊥)
not_in_range = ((λ is. omega (arith, is.0)), (λ is. omega (arith, is.1)))
