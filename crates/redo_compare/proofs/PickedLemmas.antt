-- Flags of diagnostics, as the rounds append them.
use Rattle.std.proofs.Common.{◌≡◌, ℕ, zero, suc, Bool, true, false, not, cond, List, [], ◌∷◌, ◌++◌, length, replicate, refl, sym, ap, ◌∙◌, arith}
use Rattle.redo_compare.specs.Occurrences.{OccurrenceValue}
use Rattle.redo_compare.specs.Rounds.{left_after, occurs, picked, unknown_in, without}
use Rattle.redo_compare.proofs.RoundLemmas.{without-absent}

abbrev pub item_if : {X : Type 0} → Bool → X → List X
item_if true item = item ∷ []
item_if false item = []

pub picked-push : {X : Type 0} (flags : List Bool) (flag : Bool) (items : List X) (item : X) → length flags ≡ length items
    → picked (flags ++ flag ∷ []) (items ++ item ∷ []) ≡ picked flags items ++ item_if flag item
picked-push [] true [] item same = refl
picked-push [] false [] item same = refl
picked-push [] flag (first ∷ items) item same = absurd (omega (arith, same))
picked-push (first ∷ flags) flag [] item same = absurd (omega (arith, same))
picked-push {X} (true ∷ flags) flag (one ∷ items) item same =
    ap (λ (l : List X). one ∷ l) (picked-push flags flag items item (omega (arith, same)))
picked-push (false ∷ flags) flag (one ∷ items) item same = picked-push flags flag items item (omega (arith, same))

pub picked-none : {X : Type 0} (n : ℕ) (items : List X) → picked (replicate n false) items ≡ []
picked-none zero items = refl
picked-none (suc n) [] = refl
picked-none (suc n) (item ∷ items) = picked-none n items

module _ (same : OccurrenceValue → OccurrenceValue → Bool) where
  pub left-push : (left now : List OccurrenceValue) (one : OccurrenceValue)
      → left_after same left (now ++ one ∷ []) ≡ without same one (left_after same left now)
  left-push left [] one = refl
  left-push left (first ∷ now) one = left-push (without same first left) now one

  pub unknown-push : (left now : List OccurrenceValue) (one : OccurrenceValue)
      → unknown_in same left (now ++ one ∷ [])
      ≡ unknown_in same left now ++ item_if (not (occurs same one (left_after same left now))) one
  unknown-push left [] one = by (occurs same one left)
    where
      by : (b : Bool) → cond b [] (one ∷ []) ≡ item_if (not b) one
      by true = refl
      by false = refl
  unknown-push left (first ∷ now) one =
      by (occurs same first left) refl (unknown-push (without same first left) now one) (unknown-push left now one)
    where
      by : (b : Bool) → occurs same first left ≡ b
          → unknown_in same (without same first left) (now ++ one ∷ [])
          ≡ unknown_in same (without same first left) now
          ++ item_if (not (occurs same one (left_after same (without same first left) now))) one
          → unknown_in same left (now ++ one ∷ [])
          ≡ unknown_in same left now ++ item_if (not (occurs same one (left_after same left now))) one
          → cond b (unknown_in same (without same first left) (now ++ one ∷ [])) (first ∷ unknown_in same left (now ++ one ∷ []))
          ≡ cond b (unknown_in same (without same first left) now) (first ∷ unknown_in same left now)
          ++ item_if (not (occurs same one (left_after same (without same first left) now))) one
      by true is known unknown = known
      by false is known unknown =
          ap (λ (l : List OccurrenceValue). first ∷ l) unknown
          ∙ ap (λ (l : List OccurrenceValue). first ∷ (unknown_in same left now
          ++ item_if (not (occurs same one (left_after same l now))) one)) (sym (without-absent same first left is))
