-- The range of the values of times.
use Rattle.std.proofs.Common.{◌≡◌, ℕ, zero, suc, ◌+◌, ◌*◌, ◌≤◌, ◌&&◌, leb, Bool, true, false, List, [], ◌∷◌, Option, None, Some, get_or, length, refl, subst, arith}
use Rattle.std.specs.Prelude.{nat_le, option_map, if◌then◌else◌}
use Rattle.std.specs.Char.{is_ascii_digit}
use Rattle.std.specs.List.{list_all}
use Rattle.std.proofs.lemmas.Bool.{and_parts, leb-true}
use Rattle.std.proofs.lemmas.Option.{cond_some, option_and_then_some}
use Rattle.redo_line.specs.Decimal.{are_digits, number}
use Rattle.redo_line.specs.Parts.{after_prefix, split_once}
use Rattle.redo_line.specs.Record.{Fields, at_sign, colon, fields_of, is_kind, is_pid, is_time, is_time_parts, period, record_fields, record_prefix, space, validated}
use Rattle.redo_times.specs.Report.{line_time}
use Rattle.redo_times.specs.Time.{IsInRange, max_seconds, milliseconds, min_seconds, seconds_and_fraction, time_value, value_of_parts}
use Rattle.redo_times.proofs.TimeLemmas.{decimals}

digit-at-most : (digits : List ℕ) (i : ℕ) → list_all is_ascii_digit digits ≡ true → get_or digits i 48 ≤ 57
digit-at-most [] i all = omega arith
digit-at-most (digit ∷ digits) zero all =
    leb-true digit 57 (and_parts (nat_le 48 digit) (nat_le digit 57)
    (and_parts (is_ascii_digit digit) (list_all is_ascii_digit digits) all).0).1
digit-at-most (digit ∷ digits) (suc i) all =
    digit-at-most digits i (and_parts (is_ascii_digit digit) (list_all is_ascii_digit digits) all).1

milliseconds-below : (fraction : List ℕ) → list_all is_ascii_digit fraction ≡ true → milliseconds fraction ≤ 999
milliseconds-below fraction all =
    let a = digit-at-most fraction 0 all in
    let b = digit-at-most fraction 1 all in
    let c = digit-at-most fraction 2 all in
    let value = decimals fraction in
    omega (arith, a, b, c, value)

value-in-range : (seconds fraction : List ℕ) (value : ℕ) → list_all is_ascii_digit fraction ≡ true
    → value_of_parts (seconds, fraction) ≡ Some value → IsInRange value
value-in-range seconds fraction value all = by (leb min_seconds (number seconds) && leb (number seconds) max_seconds) refl
  where
    by : (counts : Bool) → (leb min_seconds (number seconds) && leb (number seconds) max_seconds) ≡ counts
        → option_map (λ (s : ℕ). s * 1000 + milliseconds fraction) (if counts then Some (number seconds) else None) ≡ Some value
        → IsInRange value
    by false is value_is = absurd (cc)
    by true is value_is =
        let both = and_parts (leb min_seconds (number seconds)) (leb (number seconds) max_seconds) is in
        let low = leb-true min_seconds (number seconds) both.0 in
        let high = leb-true (number seconds) max_seconds both.1 in
        let below = milliseconds-below fraction all in
        let same : number seconds * 1000 + milliseconds fraction ≡ value = cc in
        (omega (arith, low, same), omega (arith, high, below, same))

fraction-digits : (time : List ℕ) (parts : Option (List ℕ × List ℕ)) → is_time_parts time parts ≡ true
    → list_all is_ascii_digit (seconds_and_fraction time parts).1 ≡ true
fraction-digits time None is = refl
fraction-digits time (Some parts) is =
    let fraction = (and_parts (are_digits 20 parts.0) (are_digits 9 parts.1) is).1 in
    (and_parts (nat_le 1 (length parts.1) && nat_le (length parts.1) 9) (list_all is_ascii_digit parts.1) fraction).1

time-in-range : (time : List ℕ) (value : ℕ) → is_time time ≡ true → time_value time ≡ Some value → IsInRange value
unfolding time_value
time-in-range time value is value_is =
    let parts = seconds_and_fraction time (split_once period time) in
    value-in-range parts.0 parts.1 value (fraction-digits time (split_once period time) is) value_is

validly-timed : (fields found : Fields) → validated fields ≡ Some found → is_time found.time ≡ true
validly-timed fields found is =
    let passed = cond_some (is_kind fields.kind && is_pid fields.pid && is_time fields.time) fields found is in
    let valid = (and_parts (is_kind fields.kind && is_pid fields.pid) (is_time fields.time) passed.0).1 in
    subst (λ (f : Fields). is_time f.time ≡ true) passed.1 valid

timed : (line : List ℕ) (fields : Fields) → record_fields line ≡ Some fields → is_time fields.time ≡ true
unfolding record_fields fields_of
timed line fields are =
    option_and_then_some _ (after_prefix record_prefix line) fields are (λ bytes bytes_are in_bytes.
    option_and_then_some _ (split_once colon bytes) fields in_bytes (λ kind kind_is in_kind.
    option_and_then_some _ (split_once colon kind.1) fields in_kind (λ pid pid_is in_pid.
    option_and_then_some _ (split_once at_sign pid.1) fields in_pid (λ time time_is in_time.
    option_and_then_some _ (after_prefix (at_sign ∷ space ∷ []) time.1) fields in_time (λ text text_is valid.
    validly-timed (record { kind = kind.0; pid = pid.0; time = time.0; text = text }) fields valid)))))

pub line-in-range : (line : List ℕ) (value : ℕ) → line_time line ≡ Some value → IsInRange value
line-in-range line value is =
    option_and_then_some _ (record_fields line) value is
    (λ fields fields_are value_is. time-in-range fields.time value (timed line fields fields_are) value_is)
