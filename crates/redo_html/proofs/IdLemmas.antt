-- The ids of elements.
use Rattle.std.proofs.Common.{◌≡◌, ℕ, ◌<◌, true, List, [], ◌∷◌, ◌++◌, decimal, refl, sym, ap, ◌∙◌, arith}
use Rattle.std.specs.Prelude.{◌==◌, ◌||◌, not, if◌then◌else◌}
use Rattle.std.specs.List.{list_all}
use Rattle.std.proofs.lemmas.Bool.{and_parts, lt-ltb, not-true, or_parts}
use Rattle.std.proofs.lemmas.Fmt.{decimal_injective}
use Rattle.redo_html.specs.Laws.{HasOwnId, until_quote}
use Rattle.redo_html.specs.Shown.{number_text}
use Rattle.redo_html.proofs.TagReading.{is_low, is_value_byte, number_value}

unquoted : (bytes : List ℕ) → list_all is_value_byte bytes ≡ true → until_quote (bytes ++ 34 ∷ []) ≡ bytes
unquoted [] are = refl
unquoted (byte ∷ bytes) are =
    let parts = and_parts (is_value_byte byte) (list_all is_value_byte bytes) are in
    let last = or_parts (byte == 34 || byte == 38 || byte == 0) (byte == 13)
    (not-true _ (and_parts (is_low byte) (not (byte == 34 || byte == 38 || byte == 0 || byte == 13)) parts.0).1) in
    let third = or_parts (byte == 34 || byte == 38) (byte == 0) last.0 in
    let second = or_parts (byte == 34) (byte == 38) third.0 in
    ap (λ b. if b then [] else byte ∷ until_quote (bytes ++ 34 ∷ [])) second.0 ∙ ap (λ bs. byte ∷ bs) (unquoted bytes parts.1)

tail_of : List ℕ → List ℕ
tail_of [] = []
tail_of (byte ∷ bytes) = bytes

head_of : List ℕ → ℕ
head_of [] = 0
head_of (byte ∷ bytes) = byte

is_decimal : (number : ℕ) → number < 0x10000000000000000 → number_text number ≡ decimal number
unfolding number_text
is_decimal number below = ap (λ b. if b then decimal number else []) (lt-ltb number 0x10000000000000000 below)

same_number : (number other : ℕ) → number < 0x10000000000000000 → other < 0x10000000000000000
    → until_quote (number_text number ++ 34 ∷ []) ≡ until_quote (number_text other ++ 34 ∷ []) → number ≡ other
same_number number other below other_below same =
    decimal_injective number other (omega (arith, below)) (omega (arith, other_below))
    (sym (is_decimal number below) ∙ sym (unquoted (number_text number) (number_value number)) ∙ same
    ∙ unquoted (number_text other) (number_value other) ∙ is_decimal other other_below)

pub has_own_id : (number : ℕ) → number < 0x10000000000000000 → HasOwnId number
unfolding tail_of head_of
has_own_id number below = record {
  closed = refl;
  opened = refl;
  targets = λ other other_below same. same_number number other below other_below (ap tail_of same);
  articles = λ other other_below same. same_number number other below other_below (ap tail_of same);
  apart = λ other same. let first : 102 ≡ 116 = ap head_of same in absurd (omega (arith, first));
}
