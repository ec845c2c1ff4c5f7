-- Numbers in decimal.
use Rattle.std.specs.Prelude.{ℕ, ◌+◌, ◌-◌, ◌*◌, ◌^◌, ◌≤◌, nat_le, Bool, ◌&&◌, List, [], ◌∷◌, Option, None, Some, length, if◌then◌else◌}
use Rattle.std.specs.Char.{is_ascii_digit}
use Rattle.std.specs.List.{AllByRecursion, list_all}

-- The value of decimal digits.
unfoldable pub number : List ℕ → ℕ
number [] = 0
number (digit ∷ digits) = (digit - 48) * 10 ^ length digits + number digits

-- Whether the bytes are digits, at least one and at most `most`.
pub record AreDigits (most : ℕ) (bytes : List ℕ) : Type 0 where
  pub some : 1 ≤ length bytes
  pub few : length bytes ≤ most
  pub each : AllByRecursion (λ byte. (48 ≤ byte) × (byte ≤ 57)) bytes

abbrev pub are_digits : ℕ → List ℕ → Bool
are_digits most bytes = nat_le 1 (length bytes) && nat_le (length bytes) most && list_all is_ascii_digit bytes

-- The value of at least one and at most `most` digits; none if the bytes are anything else.
abbrev pub number_of : ℕ → List ℕ → Option ℕ
number_of most bytes = if are_digits most bytes then Some (number bytes) else None
