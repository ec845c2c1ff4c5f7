-- Lemmas about the notations of unprintable code points.
use Rattle.std.proofs.Common.{◌≡◌, ℕ, zero, suc, ◌+◌, ◌-◌, ◌^◌, ◌<◌, ◌≤◌, ◌⊎◌, List, [], ◌∷◌, ◌++◌, refl, sym, ap, ◌∙◌, arith, ⊎_elim}
use Rattle.std.specs.Prelude.{nat_le, codes, decimal}
use Rattle.std.specs.List.{repeat}
use Rattle.std.proofs.lemmas.List.{append_assoc}
use Rattle.std.proofs.lemmas.Bool.{and_from, and_left, and_right, cond-true, cond-false, ne_eqb, le-leb, lt-leb, le-ltb, lt-ltb}
use Rattle.redo_html.specs.Shown.{is_between, byte_notation, code_point_notation, notation, number_text, unprintable_text}

pub control_notation : (code_point : ℕ) → code_point < 32 → notation code_point ≡ 94 ∷ (code_point + 64) ∷ []
unfolding notation
control_notation code_point low = cond-true _ _ _ (lt-ltb code_point 32 low)

pub delete_notation : (code_point : ℕ) → code_point ≡ 127 → notation code_point ≡ codes "^?"
unfolding notation
delete_notation code_point is = rw is refl

module _ (code_point : ℕ) (low : 32 ≤ code_point) (other : code_point ≡ 127 → ⊥) where
  pub notation_of_byte : 0xDC00 ≤ code_point → code_point ≤ 0xDCFF → notation code_point ≡ byte_notation (code_point - 0xDC00)
  unfolding notation
  notation_of_byte first last = cond-false _ _ _ (le-ltb code_point 32 low) ∙ cond-false _ _ _ (ne_eqb code_point 127 other)
      ∙ cond-true _ _ _ (and_from _ _ (le-leb 0xDC00 code_point first) (le-leb code_point 0xDCFF last))

  pub notation_of_code : (code_point < 0xDC00) ⊎ (0xDCFF < code_point) → notation code_point ≡ code_point_notation code_point
  unfolding notation
  notation_of_code outside =
      cond-false _ _ _ (le-ltb code_point 32 low) ∙ cond-false _ _ _ (ne_eqb code_point 127 other)
      ∙ cond-false (is_between code_point (0xDC00, 0xDCFF)) _ _
      (⊎_elim (λ below. and_left (nat_le 0xDC00 code_point) (nat_le code_point 0xDCFF) (lt-leb 0xDC00 code_point below))
      (λ above. and_right (nat_le 0xDC00 code_point) (nat_le code_point 0xDCFF) (lt-leb code_point 0xDCFF above)) outside)

pub number_is : (number : ℕ) → number < 2 ^ 64 → decimal number ≡ number_text number
unfolding number_text
number_is number below = sym (cond-true _ _ _ (lt-ltb number 0x10000000000000000 below))

pub few_notations : (code_point count : ℕ) → count < 5 → repeat count (notation code_point) ≡ unprintable_text code_point count
unfolding unprintable_text
few_notations code_point count few = sym (cond-true _ _ _ (lt-ltb count 5 few))

pub counted_notation : (code_point count : ℕ) → 5 ≤ count
    → notation code_point ++ ((0xC3 ∷ 0x97 ∷ []) ++ (number_text count ++ codes " ")) ≡ unprintable_text code_point count
unfolding unprintable_text
counted_notation code_point count many =
    let notation_and_times = notation code_point ++ (0xC3 ∷ 0x97 ∷ []) in
    sym (append_assoc (notation code_point) (0xC3 ∷ 0x97 ∷ []) (number_text count ++ codes " "))
    ∙ sym (append_assoc notation_and_times (number_text count) (codes " ")) ∙ sym (cond-false _ _ _ (le-ltb count 5 many))

pub next_notation : (left : ℕ) (text : List ℕ) → 0 < left → repeat left text ≡ text ++ repeat (left - 1) text
next_notation zero text some = absurd (omega arith)
next_notation (suc left) text some = ap (λ (n : ℕ). text ++ repeat n text) (omega arith)
