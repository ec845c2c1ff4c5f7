-- Rows and columns have at most nine digits.
use Rattle.std.proofs.Common.{◌≡◌, ℕ, ◌+◌, ◌-◌, ◌*◌, ◌<◌, ◌≤◌, ◌^◌, Bool, true, false, List, [], ◌∷◌, Option, None, Some, length, nat_le, option_and_then, option_map, refl, sym, ap, ◌∙◌, subst, arith}
use Rattle.std.specs.Prelude.{◌&&◌, if◌then◌else◌}
use native.Mathlib.Nat.{pow-le-pow_right}
use Rattle.std.specs.Char.{is_ascii_digit}
use Rattle.std.specs.List.{list_all}
use Rattle.std.specs.Str.{bytes_eq}
use Rattle.std.proofs.lemmas.Bool.{and_parts, leb-true}
use Rattle.std.proofs.lemmas.Grind.{pow_more}
use Rattle.redo_line.specs.Decimal.{are_digits, number}
use Rattle.redo_line.specs.Parts.{split_once}
use Rattle.redo_line.specs.Record.{colon, space}
use Rattle.redo_diagnostics.specs.Diagnostic.{DiagnosticValue, PartsValue, PlaceValue, column_from, column_in, diagnostic_from, diagnostic_of, number_in, parts_of, place_from, place_of, row_alone, row_and_column, row_with}
use Rattle.redo_json.specs.Laws.{IsExact}

-- Programs that read numbers as doubles read the row and the column exactly.
pub record IsExactPlace (place : Option PlaceValue) : Type 0 where
  pub row : IsExact (option_map (λ (p : PlaceValue). p.row) place)
  pub column : IsExact (option_and_then (λ (p : PlaceValue). p.column) place)

pub digit_is : (digit : ℕ) → is_ascii_digit digit ≡ true → (48 ≤ digit) × (digit ≤ 57)
digit_is digit is =
    let both = and_parts (nat_le 48 digit) (nat_le digit 57) is in
    (leb-true 48 digit both.0, leb-true digit 57 both.1)

number_low : (digits : List ℕ) → list_all is_ascii_digit digits ≡ true → number digits < 10 ^ length digits
unfolding number
number_low [] all = omega arith
number_low (digit ∷ digits) all =
    let both = and_parts (is_ascii_digit digit) (list_all is_ascii_digit digits) all in
    let low = (digit_is digit both.0).1 in
    let rest = number_low digits both.1 in
    let one_more : length (digit ∷ digits) ≡ length digits + 1 = omega arith in
    subst (λ (bound : ℕ). number (digit ∷ digits) < bound) (sym (ap (λ (n : ℕ). 10 ^ n) one_more ∙ pow_more 10 (length digits)))
    (more (digit - 48) (10 ^ length digits) (number digits) (omega (arith, low)) rest)
  where
    more : (d power value : ℕ) → d ≤ 9 → value < power → d * power + value < power * 10
    more d power value small below = grind arith

abbrev BothExact : Option (ℕ × Option ℕ) → Type 0
BothExact None = Unit {0}
BothExact (Some both) = (both.0 < 2 ^ 53) × IsExact both.1

exact_number : (digits : List ℕ) → IsExact (number_in digits)
exact_number digits = by (are_digits 9 digits) refl
  where
    by : (are : Bool) → are_digits 9 digits ≡ are → IsExact (if are then Some (number digits) else None)
    by false is = tt
    by true is =
        let first = and_parts (nat_le 1 (length digits) && nat_le (length digits) 9) (list_all is_ascii_digit digits) is in
        let others = and_parts (nat_le 1 (length digits)) (nat_le (length digits) 9) first.0 in
        let few = leb-true (length digits) 9 others.1 in
        let low = number_low digits first.1 in
        let zero_ten : 0 < 10 = omega arith in
        let bound : 10 ^ length digits ≤ 10 ^ 9 = pow-le-pow_right {n = 10} zero_ten few in
        omega (arith, low, bound)

exact_alone : (row : Option ℕ) → IsExact row → BothExact (row_alone row)
exact_alone None exact = tt
exact_alone (Some row) exact = (exact, tt)

exact_with : (row column : Option ℕ) → IsExact row → IsExact column → BothExact (row_with row column)
exact_with None None row column = tt
exact_with None (Some c) row column = tt
exact_with (Some r) None row column = tt
exact_with (Some r) (Some c) row column = (row, column)

exact_column : (parts : Option (List ℕ × List ℕ)) → IsExact (column_from parts)
exact_column None = tt
exact_column (Some parts) = by (bytes_eq parts.1 (space ∷ []))
  where
    by : (is : Bool) → IsExact (if is then number_in parts.0 else None)
    by true = exact_number parts.0
    by false = tt

exact_both : (parts : List ℕ × List ℕ) → BothExact (row_and_column parts)
exact_both parts = by (bytes_eq parts.1 (space ∷ []))
  where
    by : (is : Bool)
        → BothExact (if is then row_alone (number_in parts.0) else row_with (number_in parts.0) (column_in parts.1))
    by true = exact_alone (number_in parts.0) (exact_number parts.0)
    by false = exact_with (number_in parts.0) (column_in parts.1) (exact_number parts.0) (exact_column (split_once colon parts.1))

exact_from : (file : List ℕ) (both : Option (ℕ × Option ℕ)) → BothExact both → IsExactPlace (place_from file both)
exact_from [] both exact = record { row = tt; column = tt }
exact_from (byte ∷ bytes) None exact = record { row = tt; column = tt }
exact_from (byte ∷ bytes) (Some both) exact = record { row = exact.0; column = exact.1 }

exact_head : (head : List ℕ) → IsExactPlace (place_of head)
unfolding place_of
exact_head head = by (split_once colon head)
  where
    rows : (parts : Option (List ℕ × List ℕ)) → BothExact (option_and_then (λ (row : List ℕ × List ℕ). row_and_column row) parts)
    rows None = tt
    rows (Some parts) = exact_both parts

    by : (file : Option (List ℕ × List ℕ)) → IsExactPlace (option_and_then (λ (f : List ℕ × List ℕ). place_from f.0
        (option_and_then (λ (row : List ℕ × List ℕ). row_and_column row) (split_once colon f.1))) file)
    by None = record { row = tt; column = tt }
    by (Some file) = exact_from file.0 _ (rows (split_once colon file.1))

-- The place of a diagnostic.
pub exact_place : (line : List ℕ) (value : DiagnosticValue) → diagnostic_of line ≡ Some value → IsExactPlace value.place
unfolding diagnostic_of
exact_place line value is = by (parts_of line) is
  where
    by : (parts : Option PartsValue) → option_map diagnostic_from parts ≡ Some value → IsExactPlace value.place
    by None none = absurd (cc)
    by (Some parts) same =
        let place : value.place ≡ place_of parts.head = ap place_in (sym same) in
        subst IsExactPlace (sym place) (exact_head parts.head)
      where
        place_in : Option DiagnosticValue → Option PlaceValue
        place_in None = None
        place_in (Some found) = found.place
