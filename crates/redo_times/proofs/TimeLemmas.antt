-- The value of a time, digit by digit.
use Rattle.std.proofs.Common.{◌≡◌, ℕ, ◌+◌, ◌-◌, ◌*◌, ◌^◌, ◌≤◌, ◌<◌, false, ◌&&◌, List, [], ◌∷◌, ◌++◌, None, length, take, drop, get_or, leb, refl, sym, ap, ◌∙◌, subst, arith, zero-le}
use native.Mathlib.Nat.{pow-le-pow_right, mul-le-mul_left}
use Rattle.std.proofs.lemmas.Bool.{and_right, lt-leb}
use Rattle.std.proofs.lemmas.Grind.{pow_more}
use Rattle.std.proofs.lemmas.List.{length-append, take_more, take-append-drop}
use Rattle.redo_line.specs.Decimal.{number}
use Rattle.redo_times.specs.Time.{max_seconds, milliseconds, min_seconds, seconds_of}

number-push : (digits : List ℕ) (digit : ℕ) → number (digits ++ digit ∷ []) ≡ number digits * 10 + (digit - 48)
unfolding number
number-push [] digit = omega arith
number-push (first ∷ digits) digit =
    let power : 10 ^ length (digits ++ digit ∷ []) ≡ 10 ^ length digits * 10 =
    ap (λ n. 10 ^ n) (length-append digits (digit ∷ [])) ∙ pow_more 10 (length digits) in
    let value = number-push digits digit in
    let front = ap (λ p. (first - 48) * p) power in
    omega (arith, front, value)

-- More digits make no smaller number.
number-prefix : (digits more : List ℕ) → number digits ≤ number (digits ++ more)
unfolding number
number-prefix [] more = zero-le
number-prefix (first ∷ digits) more =
    let rest = number-prefix digits more in
    let zero_ten : 0 < 10 = omega arith in
    let fewer : length digits ≤ length (digits ++ more) = omega (arith, length-append digits more) in
    let power : 10 ^ length digits ≤ 10 ^ length (digits ++ more) = pow-le-pow_right {n = 10} zero_ten fewer in
    let front : (first - 48) * 10 ^ length digits ≤ (first - 48) * 10 ^ length (digits ++ more) = mul-le-mul_left (first - 48) power in
    omega (arith, rest, front)

number-take : (digits : List ℕ) (count : ℕ) → number (take count digits) ≤ number digits
number-take digits count = subst (λ (ds : List ℕ). number (take count digits) ≤ number ds) (take-append-drop count digits)
    (number-prefix (take count digits) (drop count digits))

-- The value of the digits read so far, and of one more.
pub none_read : (digits : List ℕ) → 0 ≡ number (take 0 digits)
unfolding number
none_read digits = refl

pub one_more : (digits : List ℕ) (count : ℕ) → count < length digits
    → number (take count digits) * 10 + (get_or digits count 0 - 48) ≡ number (take (count + 1) digits)
one_more digits count below = sym (ap number (take_more digits count 0 below) ∙ number-push (take count digits) (get_or digits count 0))

pub too_many : (digits : List ℕ) (count : ℕ) → max_seconds < number (take count digits) → None ≡ seconds_of digits
too_many digits count above =
    let all = number-take digits count in
    let over : leb (number digits) max_seconds ≡ false = lt-leb (number digits) max_seconds (omega (arith, all, above)) in
    let fails : (leb min_seconds (number digits) && leb (number digits) max_seconds) ≡ false =
    and_right (leb min_seconds (number digits)) (leb (number digits) max_seconds) over in
    sym (rw fails refl)

-- The first three decimals.
pub decimals : (fraction : List ℕ) → (get_or fraction 0 48 - 48) * 100 + (get_or fraction 1 48 - 48) * 10 + (get_or fraction 2 48 - 48)
    ≡ milliseconds fraction
unfolding number
decimals [] = refl
decimals (a ∷ []) = omega arith
decimals (a ∷ b ∷ []) = omega arith
decimals (a ∷ b ∷ c ∷ others) = omega arith
