-- The value of digits, read from the first one on.
use Rattle.std.proofs.Common.{◌≡◌, ℕ, zero, suc, ◌+◌, ◌-◌, ◌*◌, ◌^◌, ◌≤◌, ◌<◌, true, ◌&&◌, List, [], ◌∷◌, ◌++◌, length, take, get_or, nat_le, refl, sym, ap, ◌∙◌, arith}
use native.Mathlib.Nat.{pow-le-pow_right}
use Rattle.std.specs.Char.{is_ascii_digit}
use Rattle.std.specs.List.{list_all}
use Rattle.std.proofs.lemmas.Bool.{and_parts, leb-true}
use Rattle.std.proofs.lemmas.List.{length-append, take_more}
use Rattle.std.proofs.lemmas.Grind.{pow_more}
use Rattle.redo_line.specs.Decimal.{number, are_digits}

number-push : (digits : List ℕ) (digit : ℕ) → number (digits ++ digit ∷ []) ≡ number digits * 10 + (digit - 48)
unfolding number
number-push [] digit = omega arith
number-push (first ∷ digits) digit =
    let power : 10 ^ length (digits ++ digit ∷ []) ≡ 10 ^ length digits * 10 =
    ap (λ n. 10 ^ n) (length-append digits (digit ∷ [])) ∙ pow_more 10 (length digits) in
    let value = number-push digits digit in
    let front = ap (λ p. (first - 48) * p) power in
    omega (arith, front, value)

-- Each byte is a digit.
pub digit_at : (digits : List ℕ) (i : ℕ) → list_all is_ascii_digit digits ≡ true → i < length digits
    → is_ascii_digit (get_or digits i 0) ≡ true
digit_at [] i all below = absurd (omega (arith, below))
digit_at (first ∷ digits) zero all below = (and_parts (is_ascii_digit first) _ all).0
digit_at (first ∷ digits) (suc i) all below = digit_at digits i (and_parts (is_ascii_digit first) _ all).1 (omega (arith, below))

pub digit_is : (digit : ℕ) → is_ascii_digit digit ≡ true → (48 ≤ digit) × (digit ≤ 57)
digit_is digit is = (
  leb-true 48 digit (and_parts (nat_le 48 digit) (nat_le digit 57) is).0,
  leb-true digit 57
      (and_parts (nat_le 48 digit) (nat_le digit 57) is).1,
)

-- The digits read so far, and their value.
pub record Read (digits : List ℕ) (count : ℕ) (value : ℕ) : Type 0 where
  pub value_is : value ≡ number (take count digits)
  pub below : value + 1 ≤ 10 ^ count

pub none_yet : (digits : List ℕ) → Read digits 0 0
unfolding number
none_yet digits = record { value_is = refl; below = omega arith }

module _ (digits : List ℕ) (count value : ℕ) (so_far : Read digits count value) where
  pub still_fits : length digits ≤ 19 → count < length digits → value + 1 ≤ 10 ^ 18
  still_fits short more =
      let below = so_far.below in
      let zero_ten : 0 < 10 = omega arith in
      let few : count ≤ 18 = omega (arith, more, short) in
      let bound : 10 ^ count ≤ 10 ^ 18 = pow-le-pow_right {n = 10} zero_ten few in
      omega (arith, below, bound)

  pub one_more : list_all is_ascii_digit digits ≡ true → count < length digits
      → Read digits (count + 1) (value * 10 + (get_or digits count 0 - 48))
  one_more all more =
      let taken = take_more digits count 0 more in
      let below = so_far.below in
      let low = digit_is (get_or digits count 0) (digit_at digits count all more) in
      record {
        value_is = ap (λ v. v * 10 + (get_or digits count 0 - 48)) so_far.value_is
            ∙ sym (number-push (take count digits) (get_or digits count 0)) ∙ ap number (sym taken);
        below = omega (arith, below, low.1, pow_more 10 count);
      }

pub fewer : (digits : List ℕ) (most value : ℕ) → value < 10 ^ length digits → length digits ≤ most → value < 10 ^ most
fewer digits most value below few =
    let zero_ten : 0 < 10 = omega arith in
    let bound : 10 ^ length digits ≤ 10 ^ most = pow-le-pow_right {n = 10} zero_ten few in
    omega (arith, below, bound)

pub few_digits : (most : ℕ) (digits : List ℕ) → are_digits most digits ≡ true → length digits ≤ most
few_digits most digits are =
    leb-true (length digits) most (and_parts (nat_le 1 (length digits)) (nat_le (length digits) most)
    (and_parts (nat_le 1 (length digits) && nat_le (length digits) most) (list_all is_ascii_digit digits) are).0).1
