-- A printed value has no line feed.
use Rattle.std.proofs.Common.{◌≡◌, ◌≢◌, ℕ, suc, ◌+◌, ◌/◌, ◌%◌, Bool, true, false, List, [], ◌∷◌, ◌++◌, Option, None, Some, cond, drop, refl, sym, ap, ◌∙◌, arith, append_assoc, append-nil, subst, true≢false}
use Rattle.std.specs.Prelude.{◌==◌, ◌||◌, nat_lt, option_and_then}
use Rattle.std.specs.Char.{digit_char, is_ascii_digit}
use Rattle.std.specs.List.{prefix_len}
use Rattle.std.proofs.lemmas.Bool.{eqb-true, ltb-false}
use Rattle.json.specs.Json.{Json}
use Rattle.json.specs.Print.{ArePrintable, IsNumber, IsPrintable, ends, escape, escape_byte, escape_letter, print, print_from, quoted, separator, token_text}
use Rattle.json.specs.Token.{Token, begin_object, end_object, begin_array, end_array, key, string, number, boolean, null, bad}
use Rattle.json.specs.Tree.{HasNumbers, json_tokens}
use Rattle.json.specs.Word.{after_digits, after_exponent, after_fraction, after_minus, after_number, after_sign, after_whole, head}
use Rattle.json.proofs.Printed.Trees.{ArePrintable-json_tokens}
use Rattle.redo_line.specs.Lines.{HasNoLineFeed}
use Rattle.redo_json.proofs.PlaceLemmas.{digit_is}

both_free : (xs ys : List ℕ) → HasNoLineFeed xs → HasNoLineFeed ys → HasNoLineFeed (xs ++ ys)
both_free [] ys first last = last
both_free (x ∷ xs) ys first last = (first.0, both_free xs ys first.1 last)

-- ---- strings

letter_free : (x : ℕ) → escape_letter x ≢ 10
letter_free x = by ((x == 34) || (x == 92)) (x == 8) (x == 12) (x == 10) (x == 13) (x == 9) refl
  where
    by : (itself b8 b12 b10 b13 b9 : Bool) → ((x == 34) || (x == 92)) ≡ itself
        → cond itself x (cond b8 98 (cond b12 102 (cond b10 110 (cond b13 114 (cond b9 116 0))))) ≢ 10
    by true b8 b12 b10 b13 b9 is same = absurd (true≢false (sym is ∙ ap (λ (n : ℕ). (n == 34) || (n == 92)) same))
    by false true b12 b10 b13 b9 is same = omega (arith, same)
    by false false true b10 b13 b9 is same = omega (arith, same)
    by false false false true b13 b9 is same = omega (arith, same)
    by false false false false true b9 is same = omega (arith, same)
    by false false false false false true is same = omega (arith, same)
    by false false false false false false is same = omega (arith, same)

digit_free : (d : ℕ) → digit_char d ≢ 10
digit_free d = by (nat_lt d 10)
  where
    by : (small : Bool) → cond small (48 + d) (87 + d) ≢ 10
    by true same = omega (arith, same)
    by false same = omega (arith, same)

escaped_free : HasNoLineFeed (92 ∷ 117 ∷ 48 ∷ 48 ∷ [])
escaped_free = (λ e. omega (arith, e), (λ e. omega (arith, e), (λ e. omega (arith, e), (λ e. omega (arith, e), tt))))

byte_free : (x : ℕ) → HasNoLineFeed (escape_byte x)
unfolding escape_byte
byte_free x = by (nat_lt 0 (escape_letter x)) (nat_lt x 32) refl
  where
    by : (has_letter small : Bool) → nat_lt x 32 ≡ small
        → HasNoLineFeed (cond has_letter (92 ∷ escape_letter x ∷ [])
        (cond small (92 ∷ 117 ∷ 48 ∷ 48 ∷ digit_char (x / 16) ∷ digit_char (x % 16) ∷ []) (x ∷ [])))
    by true small is = (λ e. omega (arith, e), (letter_free x, tt))
    by false true is = both_free (92 ∷ 117 ∷ 48 ∷ 48 ∷ []) (digit_char (x / 16) ∷ digit_char (x % 16) ∷ []) escaped_free
        (digit_free (x / 16), (digit_free (x % 16), tt))
    by false false is = (λ e. let low = ltb-false x 32 is in omega (arith, low, e), tt)

escape_free : (text : List ℕ) → HasNoLineFeed (escape text)
escape_free [] = tt
escape_free (x ∷ text) = both_free (escape_byte x) (escape text) (byte_free x) (escape_free text)

quoted_free : (text : List ℕ) → HasNoLineFeed (quoted text)
quoted_free text = (λ e. omega (arith, e), both_free (escape text) (34 ∷ []) (escape_free text) (λ e. omega (arith, e), tt))

-- ---- numbers

-- A text begins with bytes that are no line feeds, and then `left` follows.
record Drops (text left : List ℕ) : Type 0 where
  front : List ℕ
  free : HasNoLineFeed front
  splits : text ≡ front ++ left

abbrev DropsTo : List ℕ → Option (List ℕ) → Type 0
DropsTo text None = Unit {0}
DropsTo text (Some left) = Drops text left

drops_none : (text : List ℕ) → Drops text text
drops_none text = record { front = []; free = tt; splits = refl }

drops_both : (text middle left : List ℕ) → Drops text middle → Drops middle left → Drops text left
drops_both text middle left first second = record {
  front = first.front ++ second.front;
  free = both_free first.front second.front first.free second.free;
  splits = first.splits ∙ ap (λ (l : List ℕ). first.front ++ l) second.splits ∙ sym (append_assoc first.front second.front left);
}

drops_then : (text middle : List ℕ) (left : Option (List ℕ)) → Drops text middle → DropsTo middle left → DropsTo text left
drops_then text middle None first second = tt
drops_then text middle (Some left) first second = drops_both text middle left first second

drops_next : (text : List ℕ) (middle : Option (List ℕ)) (next : List ℕ → Option (List ℕ)) → DropsTo text middle
    → ((t : List ℕ) → DropsTo t (next t)) → DropsTo text (option_and_then next middle)
drops_next text None next first drops = tt
drops_next text (Some middle) next first drops = drops_then text middle (next middle) first (drops middle)

-- The first byte, if it is this one.
drops_first : (text : List ℕ) (byte : ℕ) → byte ≢ 10 → byte ≢ 32 → head text ≡ byte → Drops text (drop 1 text)
drops_first [] byte free some is = absurd (some (sym is))
drops_first (x ∷ text) byte free some is = record { front = x ∷ []; free = (λ e. free (sym is ∙ e), tt); splits = refl }

drops_digits : (text : List ℕ) → Drops text (drop (prefix_len is_ascii_digit text) text)
drops_digits [] = drops_none []
drops_digits (x ∷ text) = by (is_ascii_digit x) refl (drops_digits text)
  where
    by : (digit : Bool) → is_ascii_digit x ≡ digit → Drops text (drop (prefix_len is_ascii_digit text) text)
        → Drops (x ∷ text) (drop (cond digit (1 + prefix_len is_ascii_digit text) 0) (x ∷ text))
    by false is rest = drops_none (x ∷ text)
    by true is rest =
        let count = prefix_len is_ascii_digit text in
        let one_more : suc count ≡ 1 + count = omega arith in
        subst (λ (n : ℕ). Drops (x ∷ text) (drop n (x ∷ text))) one_more (record {
          front = x ∷ rest.front;
          free = (λ e. let low = (digit_is x is).0 in omega (arith, low, e), rest.free);
          splits = ap (λ (l : List ℕ). x ∷ l) rest.splits;
        })

after_digits_drops : (text : List ℕ) → DropsTo text (after_digits text)
after_digits_drops text = by (prefix_len is_ascii_digit text == 0)
  where
    by : (none : Bool) → DropsTo text (cond none None (Some (drop (prefix_len is_ascii_digit text) text)))
    by true = tt
    by false = drops_digits text

after_minus_drops : (text : List ℕ) → Drops text (after_minus text)
after_minus_drops text = by (head text == 45) refl
  where
    by : (is : Bool) → (head text == 45) ≡ is → Drops text (cond is (drop 1 text) text)
    by true same = drops_first text 45 (λ e. omega (arith, e)) (λ e. omega (arith, e)) (eqb-true (head text) 45 same)
    by false same = drops_none text

after_sign_drops : (text : List ℕ) → Drops text (after_sign text)
after_sign_drops text = by (head text == 45) (head text == 43) refl refl
  where
    by : (minus plus : Bool) → (head text == 45) ≡ minus → (head text == 43) ≡ plus → Drops text (cond (minus || plus) (drop 1 text) text)
    by true plus same _ = drops_first text 45 (λ e. omega (arith, e)) (λ e. omega (arith, e)) (eqb-true (head text) 45 same)
    by false true _ same = drops_first text 43 (λ e. omega (arith, e)) (λ e. omega (arith, e)) (eqb-true (head text) 43 same)
    by false false _ _ = drops_none text

after_whole_drops : (text : List ℕ) → DropsTo text (after_whole text)
after_whole_drops text = by (head text == 48) refl
  where
    by : (is : Bool) → (head text == 48) ≡ is → DropsTo text (cond is (Some (drop 1 text)) (after_digits text))
    by true same = drops_first text 48 (λ e. omega (arith, e)) (λ e. omega (arith, e)) (eqb-true (head text) 48 same)
    by false same = after_digits_drops text

after_fraction_drops : (text : List ℕ) → DropsTo text (after_fraction text)
after_fraction_drops text = by (head text == 46) refl
  where
    by : (is : Bool) → (head text == 46) ≡ is → DropsTo text (cond is (after_digits (drop 1 text)) (Some text))
    by true same =
        drops_then text (drop 1 text) (after_digits (drop 1 text))
        (drops_first text 46 (λ e. omega (arith, e)) (λ e. omega (arith, e)) (eqb-true (head text) 46 same))
        (after_digits_drops (drop 1 text))
    by false same = drops_none text

after_exponent_drops : (text : List ℕ) → DropsTo text (after_exponent text)
after_exponent_drops text = by (head text == 101) (head text == 69) refl refl
  where
    exponent : Drops text (drop 1 text) → DropsTo text (after_digits (after_sign (drop 1 text)))
    exponent first =
        drops_then text (after_sign (drop 1 text)) (after_digits (after_sign (drop 1 text)))
        (drops_both text (drop 1 text) (after_sign (drop 1 text)) first (after_sign_drops (drop 1 text)))
        (after_digits_drops (after_sign (drop 1 text)))

    by : (lower upper : Bool) → (head text == 101) ≡ lower → (head text == 69) ≡ upper
        → DropsTo text (cond (lower || upper) (after_digits (after_sign (drop 1 text))) (Some text))
    by true upper same _ =
        exponent (drops_first text 101 (λ e. omega (arith, e)) (λ e. omega (arith, e)) (eqb-true (head text) 101 same))
    by false true _ same =
        exponent (drops_first text 69 (λ e. omega (arith, e)) (λ e. omega (arith, e)) (eqb-true (head text) 69 same))
    by false false _ _ = drops_none text

number_free : (text : List ℕ) → IsNumber text → HasNoLineFeed text
unfolding after_number
number_free text is =
    whole (subst (DropsTo text) is
    (drops_next text (option_and_then after_fraction (after_whole (after_minus text))) after_exponent
    (drops_next text (after_whole (after_minus text)) after_fraction
    (drops_then text (after_minus text) (after_whole (after_minus text)) (after_minus_drops text) (after_whole_drops (after_minus text)))
    after_fraction_drops) after_exponent_drops))
  where
    whole : Drops text [] → HasNoLineFeed text
    whole all = subst HasNoLineFeed (sym (all.splits ∙ append-nil all.front)) all.free

-- ---- tokens

boolean_free : (b : Bool) → HasNoLineFeed (token_text (boolean b))
boolean_free true = (λ e. omega (arith, e), (λ e. omega (arith, e), (λ e. omega (arith, e), (λ e. omega (arith, e), tt))))
boolean_free false = (
  λ e. omega (arith, e),
  (
    λ e. omega (arith, e),
    (
      λ e. omega (arith, e),
      (
        λ e. omega (arith, e),
        (
          λ e. omega (
            arith,
            e,
          ),
          tt,
        ),
      ),
    ),
  ),
)

token_free : (t : Token) → IsPrintable t → HasNoLineFeed (token_text t)
token_free begin_object is = (λ e. omega (arith, e), tt)
token_free end_object is = (λ e. omega (arith, e), tt)
token_free begin_array is = (λ e. omega (arith, e), tt)
token_free end_array is = (λ e. omega (arith, e), tt)
token_free (key s) is = both_free (quoted s) (58 ∷ []) (quoted_free s) (λ e. omega (arith, e), tt)
token_free (string s) is = quoted_free s
token_free (number s) is = number_free s is
token_free (boolean b) is = boolean_free b
token_free null is = (λ e. omega (arith, e), (λ e. omega (arith, e), (λ e. omega (arith, e), (λ e. omega (arith, e), tt))))
token_free bad is = tt

separator_free : (test : Bool) → HasNoLineFeed (cond test (44 ∷ []) [])
separator_free true = (λ e. omega (arith, e), tt)
separator_free false = tt

tokens_free : (before : Bool) (tokens : List Token) → ArePrintable tokens → HasNoLineFeed (print_from before tokens)
unfolding print_from ArePrintable
tokens_free before [] are = tt
tokens_free before (t ∷ tokens) are =
    both_free (separator before t) (token_text t ++ print_from (ends t) tokens) (separator_free _)
    (both_free (token_text t) (print_from (ends t) tokens) (token_free t are.0) (tokens_free (ends t) tokens are.1))

pub json_free : (json : Json) → HasNumbers json → HasNoLineFeed (print (json_tokens json))
json_free json numbers = tokens_free false (json_tokens json) (ArePrintable-json_tokens json numbers)
