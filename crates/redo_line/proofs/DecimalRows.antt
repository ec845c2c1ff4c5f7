-- Examples of numbers in decimal, computed.
use Rattle.std.proofs.Common.{◌≡◌, ℕ, ◌≤◌, true, false, List, [], None, Some, length, refl}
use Rattle.std.specs.Prelude.{codes}
use Rattle.std.specs.List.{AllByRecursion}
use Rattle.redo_line.specs.Decimal.{number, AreDigits, are_digits, number_of}

digits : (are_digits 3 (codes "007") ≡ true) × (are_digits 3 (codes "1000") ≡ false) × (are_digits 3 [] ≡ false)
    × (are_digits 3 (codes "1/") ≡ false) × (are_digits 3 (codes ":1") ≡ false)
digits = (refl, refl, refl, refl, refl)

numbers : (number_of 3 (codes "120") ≡ Some 120) × (number_of 3 (codes "007") ≡ Some 7) × (number_of 3 (codes "1x") ≡ None)
    × (number_of 2 (codes "120") ≡ None)
unfolding number
numbers = (refl, refl, refl, refl)

-- Facts about bytes that are at most nine digits.
at_least_one : (bytes : List ℕ) → AreDigits 9 bytes → 1 ≤ length bytes
at_least_one bytes are = are.some

at_most_nine : (bytes : List ℕ) → AreDigits 9 bytes → length bytes ≤ 9
at_most_nine bytes are = are.few

each_a_digit : (bytes : List ℕ) → AreDigits 9 bytes → AllByRecursion (λ byte. (48 ≤ byte) × (byte ≤ 57)) bytes
each_a_digit bytes are = are.each
