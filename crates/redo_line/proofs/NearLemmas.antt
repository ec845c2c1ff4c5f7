-- The first index of a byte, looked for in the first bytes and then in the others.
use Rattle.std.proofs.Common.{◌≡◌, ℕ, ◌+◌, ◌-◌, ◌≤◌, eqb, List, inl, inr, length, drop, get_or, sym, ◌∙◌, ap, subst, arith, zero-le}
use Rattle.std.proofs.lemmas.Bool.{cases_order, eqb-true}
use Rattle.std.proofs.lemmas.List.{get_or-drop, length-drop}
use Rattle.memchr.specs.Find.{Passes, NoneBefore, Nowhere, is_byte}

abbrev Stands : ℕ → List ℕ → ℕ → Type 0
Stands byte bytes k = Passes (is_byte byte) bytes k

-- One more byte that isn't it.
pub none_more : (byte : ℕ) (bytes : List ℕ) (at : ℕ) → Nowhere (Stands byte bytes) 0 at → (get_or bytes at 0 ≡ byte → ⊥)
    → Nowhere (Stands byte bytes) 0 (at + 1)
none_more byte bytes at none is_none k low below is =
    elim (cases_order k at) [
      | inl same ↦ is_none (ap (λ (n : ℕ). get_or bytes n 0) (sym same) ∙ eqb-true (get_or bytes k 0) byte is)
      | inr (inl before) ↦ none k low before is
      | inr (inr behind) ↦ absurd (omega (arith, below, behind))
    ]

-- It is not in the first bytes, and the others were searched.
module _ (byte : ℕ) (bytes left : List ℕ) (near : ℕ) (left_is : left ≡ drop near bytes) (none : Nowhere (Stands byte bytes) 0 near) where
  read : (k : ℕ) → get_or left k 0 ≡ get_or bytes (near + k) 0
  read k = ap (λ (b : List ℕ). get_or b k 0) left_is ∙ get_or-drop near bytes k 0

  none_upto : (n : ℕ) → Nowhere (Stands byte left) 0 n → Nowhere (Stands byte bytes) 0 (near + n)
  none_upto n nowhere k low below is =
      elim (cases_order k near) [
        | inl same ↦ behind (omega (arith, same))
        | inr (inl before) ↦ none k low before is
        | inr (inr after) ↦ behind (omega (arith, after))
      ]
    where
      behind : near ≤ k → ⊥
      behind up =
          let place : near + (k - near) ≡ k = omega (arith, up) in
          nowhere (k - near) zero-le (omega (arith, up, below))
          (ap (λ (b : ℕ). eqb b byte) (read (k - near) ∙ ap (λ (m : ℕ). get_or bytes m 0) place) ∙ is)

  pub found_behind : (at : ℕ) → NoneBefore (Stands byte left) 0 (length left) at × Stands byte left at
      → NoneBefore (Stands byte bytes) 0 (length bytes) (near + at) × Stands byte bytes (near + at)
  found_behind at found =
      let size = ap length left_is ∙ length-drop near bytes in (
        record { low = zero-le; high = omega (arith, size, found.0.high); before = none_upto at found.0.before },
        ap (λ (b : ℕ). eqb b byte)
            (sym (read at)) ∙ found.1,
      )

  pub none_behind : near ≤ length bytes → Nowhere (Stands byte left) 0 (length left) → Nowhere (Stands byte bytes) 0 (length bytes)
  none_behind within nowhere =
      let size : near + length left ≡ length bytes = let s = ap length left_is ∙ length-drop near bytes in omega (arith, s, within) in
      subst (Nowhere (Stands byte bytes) 0) size (none_upto (length left) nowhere)
