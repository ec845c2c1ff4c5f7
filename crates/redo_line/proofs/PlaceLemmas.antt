-- The index of the first element that passes a test.
use Rattle.std.proofs.Common.{◌≡◌, ℕ, ◌+◌, cond, Bool, true, false, ◌||◌, List, [], ◌∷◌, ◌++◌, Option, None, Some, is_some, length, refl, sym, ap, ◌∙◌, arith}
use Rattle.std.specs.List.{list_any, position, position_from}
use Rattle.std.proofs.lemmas.Iterator.Adapters.{position_from-zero}

-- One more element at the front: it passes, or the others decide.
first_or : (passes : Bool) (i : ℕ) (rest : Option ℕ) (others : Bool) → is_some rest ≡ others
    → is_some (cond passes (Some i) rest) ≡ (passes || others)
first_or true i rest others is = refl
first_or false i rest others is = is

-- If no earlier element passes, the later ones decide.
none_or : (passes : Bool) (i : ℕ) (rest more : Option ℕ) {then : Option ℕ} → cond passes (Some i) rest ≡ None → (rest ≡ None → more ≡ then)
    → cond passes (Some i) more ≡ then
none_or true i rest more none others = absurd (cc)
none_or false i rest more none others = others none

module _ {X : Type 0} (test : X → Bool) where
  first_from : (i : ℕ) (xs : List X) → is_some (position_from test i xs) ≡ list_any test xs
  first_from i [] = refl
  first_from i (x ∷ xs) = first_or (test x) i (position_from test (i + 1) xs) (list_any test xs) (first_from (i + 1) xs)

  -- There is an index exactly if an element passes.
  pub some_place : (xs : List X) → is_some (position test xs) ≡ list_any test xs
  some_place xs = ap is_some (position_from-zero test xs) ∙ first_from 0 xs

  behind_from : (xs rest : List X) (i : ℕ) → position_from test i xs ≡ None
      → position_from test i (xs ++ rest) ≡ position_from test (i + length xs) rest
  behind_from [] rest i none = ap (λ n. position_from test n rest) (omega arith)
  behind_from (x ∷ xs) rest i none =
      none_or (test x) i (position_from test (i + 1) xs) (position_from test (i + 1) (xs ++ rest)) none
      (λ others. behind_from xs rest (i + 1) others)
      ∙ ap (λ n. position_from test n rest) (omega arith)

  behind : (xs rest : List X) → position test xs ≡ None → position test (xs ++ rest) ≡ position_from test (length xs) rest
  behind xs rest none = position_from-zero test (xs ++ rest) ∙ behind_from xs rest 0 (sym (position_from-zero test xs) ∙ none)
      ∙ ap (λ n. position_from test n rest) (omega arith)

  -- After elements that don't pass, the next one is the first that passes.
  pub first_passes : (xs : List X) (x : X) (rest : List X) → position test xs ≡ None → test x ≡ true
      → position test (xs ++ x ∷ rest) ≡ Some (length xs)
  first_passes xs x rest none passes =
      behind xs (x ∷ rest) none ∙ ap (λ b. cond b (Some (length xs)) (position_from test (length xs + 1) rest)) passes

  -- If the next one doesn't pass either, none does.
  pub none_passes : (xs : List X) (x : X) → position test xs ≡ None → test x ≡ false → position test (xs ++ x ∷ []) ≡ None
  none_passes xs x none fails = behind xs (x ∷ []) none ∙ ap (λ b. cond b (Some (length xs)) None) fails
