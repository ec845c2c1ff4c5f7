-- The key of a line with a place.
use Rattle.std.proofs.Common.{◌≡◌, ◌⊎◌, inl, inr, ℕ, ◌+◌, ◌-◌, ◌<◌, ◌≤◌, ◌==◌, true, false, ◌&&◌, List, [], ◌∷◌, ◌++◌, Option, None, Some, length, take, drop, get_or, refl, sym, ◌∙◌, ap, subst, arith}
use Rattle.std.specs.Prelude.{codes, option_and_then, option_map}
use Rattle.std.specs.List.{AllByRecursion}
use Rattle.std.proofs.lemmas.Bool.{and_from, eq-eqb, eqb-false, false_from_ne_true, or_right}
use Rattle.std.proofs.lemmas.List.{append_assoc, drop_at, get_or-append-add, length-append, length-take, take-append-drop, take_at}
use Rattle.memchr.specs.Find.{occurs_at}
use Rattle.memchr.proofs.lemmas.MatchLemmas.{OccursAt-from_part, occurs_at-true}
use Rattle.redo_line.specs.Decimal.{AreDigits}
use Rattle.redo_line.specs.Parts.{split_once}
use Rattle.redo_line.specs.Record.{colon, space}
use Rattle.redo_line.proofs.DigitLemmas.{digits_free}
use Rattle.redo_line.proofs.PartLemmas.{HasNo, parted_at}
use Rattle.redo_diagnostics.specs.declared.severity.Severity.{Severity}
use Rattle.redo_diagnostics.specs.declared.severity.Severity.TheVariants.{Warning, Error, FatalError}
use Rattle.redo_diagnostics.specs.Diagnostic.{is_word_at, key_of, masked, max_digits, origin_from, origin_of, parts_at, parts_in, severity_at, word_of}
use Rattle.redo_diagnostics.specs.Laws.{written_place}
use Rattle.redo_diagnostics.proofs.ApartLemmas.{Follows, free_by_test, words_tell}
use Rattle.redo_diagnostics.proofs.SplitLemmas.{word_follows, word_splits}
use Rattle.redo_diagnostics.proofs.WordLemmas.{ends_well, place_found, starts_well}

-- The letters of a word, without its colon.
abbrev letters_of : Severity → List ℕ
letters_of Warning = codes "warning"
letters_of Error = codes "error"
letters_of FatalError = codes "fatal error"

letters_then : (severity : Severity) (after : List ℕ) → word_of severity ++ after ≡ letters_of severity ++ colon ∷ after
letters_then Warning after = refl
letters_then Error after = refl
letters_then FatalError after = refl

letters_free : (severity : Severity) → HasNo colon (letters_of severity)
letters_free Warning = free_by_test colon (letters_of Warning) refl
letters_free Error = free_by_test colon (letters_of Error) refl
letters_free FatalError = free_by_test colon (letters_of FatalError) refl

abbrev IsDigit : ℕ → Type 0
IsDigit byte = (48 ≤ byte) × (byte ≤ 57)

-- Letters are no digits.
letters_no_digits : (severity : Severity) (a : List ℕ) → AllByRecursion IsDigit (a ++ letters_of severity) → ⊥
letters_no_digits Warning [] each = let few = each.0.1 in omega (arith, few)
letters_no_digits Error [] each = let few = each.0.1 in omega (arith, few)
letters_no_digits FatalError [] each = let few = each.0.1 in omega (arith, few)
letters_no_digits severity (byte ∷ a) each = letters_no_digits severity a each.1

abbrev first_of : List ℕ → ℕ
first_of bytes = get_or bytes 0 0

letters_no_space : (severity : Severity) (a b : List ℕ) → space ∷ a ≡ letters_of severity ++ b → ⊥
letters_no_space Warning a b same = eqb-false 32 119 refl (ap first_of same)
letters_no_space Error a b same = eqb-false 32 101 refl (ap first_of same)
letters_no_space FatalError a b same = eqb-false 32 102 refl (ap first_of same)

-- Bytes before a colon, and a word without its colon somewhere before another colon: the word ends at this colon, or it is after it.
abbrev Splits : List ℕ → List ℕ → List ℕ → List ℕ → List ℕ → Type 0
Splits f t a u b = ((f ≡ a ++ u) × (t ≡ b)) ⊎ ((others : List ℕ) × (a ≡ f ++ colon ∷ others) × (t ≡ others ++ (u ++ colon ∷ b)))

not_none : (f others : List ℕ) → [] ≡ f ++ colon ∷ others → ⊥
not_none [] others is = let size = ap length is in omega (arith, size)
not_none (z ∷ f) others is = let size = ap length is in omega (arith, size)

abbrev rest_of : List ℕ → List ℕ
rest_of bytes = drop 1 bytes

splits : (f t a u b : List ℕ) → HasNo colon f → HasNo colon u → f ++ colon ∷ t ≡ a ++ (u ++ colon ∷ b) → Splits f t a u b
splits [] t [] [] b first other same = inl (refl, ap rest_of same)
splits [] t [] (x ∷ u) b first other same = absurd (other.0 (sym (ap first_of same)))
splits [] t (x ∷ a) u b first other same = inr (a, ap (λ (y : ℕ). y ∷ a) (sym (ap first_of same)), ap rest_of same)
splits (x ∷ f) t [] [] b first other same = absurd (first.0 (ap first_of same))
splits (x ∷ f) t [] (y ∷ u) b first other same = by (splits f t [] u b first.1 other.1 (ap rest_of same))
  where
    by : Splits f t [] u b → Splits (x ∷ f) t [] (y ∷ u) b
    by (inl both) = inl (ap (λ (one : ℕ). one ∷ f) (ap first_of same) ∙ ap (λ (others : List ℕ). y ∷ others) both.0, both.1)
    by (inr parts) = absurd (not_none f parts.0 parts.1)
splits (x ∷ f) t (y ∷ a) u b first other same = by (splits f t a u b first.1 other (ap rest_of same))
  where
    by : Splits f t a u b → Splits (x ∷ f) t (y ∷ a) u b
    by (inl both) = inl (ap (λ (one : ℕ). one ∷ f) (ap first_of same) ∙ ap (λ (others : List ℕ). y ∷ others) both.0, both.1)
    by (inr parts) =
        inr (parts.0, ap (λ (one : ℕ). one ∷ a) (sym (ap first_of same)) ∙ ap (λ (others : List ℕ). x ∷ others) parts.1, parts.2)

module _ (severity : Severity) (after : List ℕ) where
  -- No word ends in digits, a colon and a space.
  no_word_in_last : (digits rest a : List ℕ) → AreDigits max_digits digits
      → digits ++ colon ∷ space ∷ rest ≡ a ++ (letters_of severity ++ colon ∷ after) → length a < length digits + 2 → ⊥
  no_word_in_last digits rest a are same below =
      by (splits digits (space ∷ rest) a (letters_of severity) after (digits_free max_digits colon digits refl are)
      (letters_free severity) same)
    where
      begin : (others : List ℕ) → length others < 1 → space ∷ rest ≡ others ++ (letters_of severity ++ colon ∷ after) → ⊥
      begin [] short is = letters_no_space severity rest (colon ∷ after) is
      begin (byte ∷ others) short is = omega (arith, short)

      by : Splits digits (space ∷ rest) a (letters_of severity) after → ⊥
      by (inl both) = letters_no_digits severity a (subst (AllByRecursion IsDigit) both.0 are.each)
      by (inr parts) =
          let size = ap length parts.1 ∙ length-append digits (colon ∷ parts.0) in
          begin parts.0 (omega (arith, size, below)) parts.2

  -- Digits after a colon follow no word.
  digits_follow : (digits rest : List ℕ) → AreDigits max_digits digits → digits ++ rest ≡ after → Follows after → ⊥
  digits_follow [] rest are same follows = let some = are.some in omega (arith, some)
  digits_follow (digit ∷ digits) rest are same (inl none) = let size = ap length (same ∙ none) in omega (arith, size)
  digits_follow (digit ∷ digits) rest are same (inr next) =
      let is : digit ≡ space = ap first_of (same ∙ next.1) in
      let low = are.each.0.0 in omega (arith, is, low)

  no_word_by_row : (file row rest a : List ℕ) → HasNo colon file → AreDigits max_digits row → Follows after
      → file ++ colon ∷ (row ++ colon ∷ space ∷ rest) ≡ a ++ (letters_of severity ++ colon ∷ after)
      → length a < length file + length row + 3 → ⊥
  no_word_by_row file row rest a free row_digits follows same below =
      by (splits file (row ++ colon ∷ space ∷ rest) a (letters_of severity) after free (letters_free severity) same)
    where
      by : Splits file (row ++ colon ∷ space ∷ rest) a (letters_of severity) after → ⊥
      by (inl both) = digits_follow row (colon ∷ space ∷ rest) row_digits both.1 follows
      by (inr parts) =
          let size = ap length parts.1 ∙ length-append file (colon ∷ parts.0) in
          no_word_in_last row rest parts.0 row_digits parts.2 (omega (arith, size, below))

  no_word_by_column : (file row column rest a : List ℕ) → HasNo colon file → AreDigits max_digits row → AreDigits max_digits column
      → Follows after → file ++ colon ∷ (row ++ colon ∷ (column ++ colon ∷ space ∷ rest)) ≡ a ++ (letters_of severity ++ colon ∷ after)
      → length a < length file + length row + length column + 4 → ⊥
  no_word_by_column file row column rest a free row_digits column_digits follows same below =
      by (splits file (row ++ colon ∷ (column ++ colon ∷ space ∷ rest)) a (letters_of severity) after free (letters_free severity) same)
    where
      after_row : (others : List ℕ) → length others < length row + length column + 3
          → Splits row (column ++ colon ∷ space ∷ rest) others (letters_of severity) after → ⊥
      after_row others short (inl both) =
          letters_no_digits severity others (subst (AllByRecursion IsDigit) both.0 row_digits.each)
      after_row others short (inr parts) =
          let size = ap length parts.1 ∙ length-append row (colon ∷ parts.0) in
          no_word_in_last column rest parts.0 column_digits parts.2 (omega (arith, size, short))

      by : Splits file (row ++ colon ∷ (column ++ colon ∷ space ∷ rest)) a (letters_of severity) after → ⊥
      by (inl both) = digits_follow row (colon ∷ (column ++ colon ∷ space ∷ rest)) row_digits both.1 follows
      by (inr parts) =
          let size = ap length parts.1 ∙ length-append file (colon ∷ parts.0) in
          after_row parts.0 (omega (arith, size, below))
          (splits row (column ++ colon ∷ space ∷ rest) parts.0 (letters_of severity) after
          (digits_free max_digits colon row refl row_digits) (letters_free severity) parts.2)

-- ---- a written place

abbrev numbers_end : List ℕ
numbers_end = colon ∷ space ∷ []

abbrev front_of : List ℕ → List ℕ → Option (List ℕ) → List ℕ
front_of file row None = file ++ colon ∷ row
front_of file row (Some column) = file ++ colon ∷ row ++ colon ∷ column

front_is : (file row : List ℕ) (column : Option (List ℕ)) → written_place file row column ≡ front_of file row column ++ numbers_end
front_is file row None = refl
front_is file row (Some column) = refl

-- The bytes after the file.
place_rest : (file row rest : List ℕ) → (file ++ colon ∷ row) ++ rest ≡ file ++ colon ∷ (row ++ rest)
place_rest file row rest = append_assoc file (colon ∷ row) rest

row_rest : (file row rest : List ℕ) → written_place file row None ++ rest ≡ file ++ colon ∷ (row ++ colon ∷ space ∷ rest)
row_rest file row rest = append_assoc (file ++ colon ∷ row) numbers_end rest ∙ place_rest file row (colon ∷ space ∷ rest)

column_rest : (file row column rest : List ℕ)
    → written_place file row (Some column) ++ rest ≡ file ++ colon ∷ (row ++ colon ∷ (column ++ colon ∷ space ∷ rest))
column_rest file row column rest = append_assoc (file ++ colon ∷ row ++ colon ∷ column) numbers_end rest
    ∙ append_assoc (file ++ colon ∷ row) (colon ∷ column) (colon ∷ space ∷ rest)
    ∙ place_rest file row (colon ∷ (column ++ colon ∷ space ∷ rest))

origin_is : (file row : List ℕ) (column : Option (List ℕ)) → HasNo colon file → origin_of (written_place file row column) ≡ file
origin_is file row None free =
    ap (λ (bytes : List ℕ). origin_from (split_once colon bytes)) (place_rest file row numbers_end)
    ∙ ap origin_from (parted_at colon file (row ++ numbers_end) free)
origin_is file row (Some column) free =
    ap (λ (bytes : List ℕ). origin_from (split_once colon bytes)) (append_assoc (file ++ colon ∷ row) (colon ∷ column) numbers_end
    ∙ place_rest file row (colon ∷ (column ++ numbers_end)))
    ∙ ap origin_from (parted_at colon file (row ++ colon ∷ (column ++ numbers_end)) free)

row_size : (file row : List ℕ) → length (written_place file row None) ≡ length file + length row + 3
row_size file row = let whole = length-append (file ++ colon ∷ row) numbers_end in
    let place = length-append file (colon ∷ row) in omega (arith, whole, place)

column_size : (file row column : List ℕ) → length (written_place file row (Some column)) ≡ length file + length row + length column + 4
column_size file row column = let whole = length-append (file ++ colon ∷ row ++ colon ∷ column) numbers_end in
    let numbers = length-append (file ++ colon ∷ row) (colon ∷ column) in
    let place = length-append file (colon ∷ row) in omega (arith, whole, numbers, place)

-- No word is in a place.
no_word_in_place : (severity : Severity) (after file row rest a : List ℕ) (column : Option (List ℕ)) → HasNo colon file
    → AreDigits max_digits row → ((digits : List ℕ) → column ≡ Some digits → AreDigits max_digits digits) → Follows after
    → written_place file row column ++ rest ≡ a ++ (letters_of severity ++ colon ∷ after)
    → length a < length (written_place file row column) → ⊥
no_word_in_place severity after file row rest a None free row_digits column_digits follows same below =
    no_word_by_row severity after file row rest a free row_digits follows (sym (row_rest file row rest) ∙ same)
    (let size = row_size file row in omega (arith, size, below))
no_word_in_place severity after file row rest a (Some column) free row_digits column_digits follows same below =
    no_word_by_column severity after file row column rest a free row_digits (column_digits column refl) follows
    (sym (column_rest file row column rest) ∙ same) (let size = column_size file row column in omega (arith, size, below))

-- ---- the word of a line with a place

-- At a place with a word is no other one.
only_word : (plain : List ℕ) (one other : Severity) (place : ℕ) → is_word_at plain one place ≡ true → is_word_at plain other place ≡ true
    → one ≡ other
only_word plain one other place first second =
    (words_tell one other _ _ (sym (word_splits plain one place first) ∙ word_splits plain other place second)).0

no_other : (plain : List ℕ) (one other : Severity) (place : ℕ) → is_word_at plain one place ≡ true → (one ≡ other → ⊥)
    → is_word_at plain other place ≡ false
no_other plain one other place is apart =
    false_from_ne_true (is_word_at plain other place) (λ same. apart (only_word plain one other place is same))

pub severity_found : (plain : List ℕ) (severity : Severity) (place : ℕ) → is_word_at plain severity place ≡ true
    → severity_at plain place ≡ Some severity
severity_found plain Warning place is = rw is refl
severity_found plain Error place is = rw (no_other plain Error Warning place is (λ same. cc)) (rw is refl)
severity_found plain FatalError place is =
    rw (no_other plain FatalError Warning place is (λ same. cc)) (rw (no_other plain FatalError Error place is (λ same. cc)) (rw is refl))

severity_nowhere : (plain : List ℕ) (place : ℕ) → ((severity : Severity) → is_word_at plain severity place ≡ false)
    → severity_at plain place ≡ None
severity_nowhere plain place none = rw (none Warning) (rw (none Error) (rw (none FatalError) refl))

-- A word after a space and before a space is one.
module _ (front message : List ℕ) (severity : Severity) where
  abbrev head : List ℕ
  head = front ++ space ∷ []

  abbrev rest : List ℕ
  rest = word_of severity ++ space ∷ message

  abbrev plain : List ℕ
  plain = head ++ rest

  size : length head ≡ length front + 1
  size = length-append front (space ∷ [])

  occurs : occurs_at plain (word_of severity) (length head) ≡ true
  occurs =
      let whole = length-append head rest in
      let others = length-append (word_of severity) (space ∷ message) in
      occurs_at-true plain (word_of severity) (length head) (OccursAt-from_part plain (word_of severity) (length head)
      (omega (arith, whole, others))
      (ap (take (length (word_of severity))) (drop_at head rest (length head) refl)
      ∙ take_at (word_of severity) (space ∷ message) (length (word_of severity)) refl))

  before : get_or plain (length head - 1) 0 ≡ space
  before =
      let index : length head - 1 ≡ length front + 0 = let same = size in omega (arith, same) in
      ap (λ n. get_or plain n 0) index
      ∙ ap (λ (bytes : List ℕ). get_or bytes (length front + 0) 0) (append_assoc front (space ∷ []) rest)
      ∙ get_or-append-add front (space ∷ rest) 0 0

  behind : get_or plain (length head + length (word_of severity)) 0 ≡ space
  behind =
      let last : length (word_of severity) ≡ length (word_of severity) + 0 = omega arith in
      get_or-append-add head rest (length (word_of severity)) 0
      ∙ ap (λ n. get_or rest n 0) last ∙ get_or-append-add (word_of severity) (space ∷ message) 0 0

  word_here : is_word_at plain severity (length head) ≡ true
  word_here = and_from (occurs_at plain (word_of severity) (length head) && starts_well plain (length head))
      (ends_well plain (length head + length (word_of severity)))
      (and_from (occurs_at plain (word_of severity) (length head)) (starts_well plain (length head)) occurs
      (or_right (length head == 0) (get_or plain (length head - 1) 0 == space)
      (eq-eqb (get_or plain (length head - 1) 0) space before)))
      (or_right (length head + length (word_of severity) == length plain)
      (get_or plain (length head + length (word_of severity)) 0 == space)
      (eq-eqb (get_or plain (length head + length (word_of severity)) 0) space behind))

module _ (file row message : List ℕ) (column : Option (List ℕ)) (severity : Severity) (free : HasNo colon file)
    (row_digits : AreDigits max_digits row) (column_digits : (digits : List ℕ) → column ≡ Some digits → AreDigits max_digits digits) where
  abbrev place : List ℕ
  place = written_place file row column

  abbrev tail : List ℕ
  tail = word_of severity ++ space ∷ message

  spaced : (front_of file row column ++ colon ∷ []) ++ space ∷ [] ≡ place
  spaced = append_assoc (front_of file row column) (colon ∷ []) (space ∷ []) ∙ sym (front_is file row column)

  here : is_word_at (place ++ tail) severity (length place) ≡ true
  here = subst (λ (bytes : List ℕ). is_word_at (bytes ++ tail) severity (length bytes) ≡ true) spaced
      (word_here (front_of file row column ++ colon ∷ []) message severity)

  not_sooner : (sooner : ℕ) → sooner < length place → (other : Severity) → is_word_at (place ++ tail) other sooner ≡ false
  not_sooner sooner below other = false_from_ne_true (is_word_at (place ++ tail) other sooner) (λ is.
      let after = drop (sooner + length (word_of other)) (place ++ tail) in
      let whole = sym (take-append-drop sooner (place ++ tail))
      ∙ ap (λ (bytes : List ℕ). take sooner (place ++ tail) ++ bytes)
      (word_splits (place ++ tail) other sooner is ∙ letters_then other after) in
      no_word_in_place other after file row tail (take sooner (place ++ tail)) column free row_digits column_digits
      (word_follows (place ++ tail) other sooner is) whole
      (let few = length-take sooner (place ++ tail) in omega (arith, few, below)))

  pub key_at : option_map key_of (parts_in (place ++ tail)) ≡ Some (masked ((file ++ codes ": ") ++ tail))
  key_at =
      let severity_is = severity_found (place ++ tail) severity (length place) here in
      let place_is = place_found (place ++ tail) (length place) severity severity_is
      (λ sooner below. severity_nowhere (place ++ tail) sooner (not_sooner sooner below)) in
      ap (λ found. option_map key_of (option_and_then (λ (at : ℕ). parts_at (place ++ tail) at) found)) place_is
      ∙ ap (λ found. option_map key_of (option_map (λ severity. record {
        head = take (length place) (place ++ tail);
        severity = severity;
        tail = drop (length place) (place ++ tail);
      }) found)) severity_is
      ∙ ap (λ (bytes : List ℕ). Some (masked ((origin_of bytes ++ codes ": ") ++ drop (length place) (place ++ tail))))
      (take_at place tail (length place) refl)
      ∙ ap (λ (bytes : List ℕ). Some (masked ((origin_of place ++ codes ": ") ++ bytes))) (drop_at place tail (length place) refl)
      ∙ ap (λ (bytes : List ℕ). Some (masked ((bytes ++ codes ": ") ++ tail))) (origin_is file row column free)
