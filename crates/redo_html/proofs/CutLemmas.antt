-- Indices at which a text may be cut.
use Rattle.std.proofs.Common.{◌≡◌, ℕ, zero, suc, ◌+◌, ◌-◌, ◌<◌, ◌≤◌, ◌⊎◌, inl, inr, Bool, true, false, List, [], ◌∷◌, length, drop, refl, ◌∙◌, ap, arith}
use Rattle.std.specs.Prelude.{if◌then◌else◌}
use Rattle.std.proofs.lemmas.Bool.{cases_lt}
use Rattle.std.proofs.lemmas.List.{length-drop}
use Rattle.redo_html.specs.declared.text_kind.TextKind.TheVariants.{Log}
use Rattle.redo_html.specs.Cut.{begins_at, last_where, may_cut}
use Rattle.redo_html.specs.Symbols.{symbol_len}
use Rattle.redo_html.proofs.SymbolLemmas.{symbol_bounds}

-- ---- the last number that passes a test

module _ (passes : ℕ → Bool) where
  pub last_is : (n : ℕ) → passes n ≡ true → last_where passes n ≡ n
  last_is zero is = refl
  last_is (suc n) is = ap (λ (b : Bool). if b then suc n else last_where passes n) is

  -- If no number after `low` passes, those numbers don't matter.
  pub last_below : (low high : ℕ) → low ≤ high → ((n : ℕ) → low < n → n ≤ high → passes n ≡ false)
      → last_where passes high ≡ last_where passes low
  last_below low zero below none = let same : zero ≡ low = omega arith in ap (last_where passes) same
  last_below low (suc high) below none =
      by (λ within. last_below low high within (λ n above under. none n above (omega (arith, under)))) (cases_lt high low)
    where
      by : (low ≤ high → last_where passes high ≡ last_where passes low) → (high < low) ⊎ (low ≤ high)
          → last_where passes (suc high) ≡ last_where passes low
      by before (inl above) = let same : suc high ≡ low = omega arith in ap (last_where passes) same
      by before (inr within) = ap (λ (b : Bool). if b then suc high else last_where passes high)
          (none (suc high) (omega (arith, within)) (omega arith))
          ∙ before within

-- ---- boundaries of symbols

-- After a boundary, the boundaries are the ones of the rest.
past : (at skipped : ℕ) (bytes : List ℕ) (more total : ℕ) → total ≡ at + more → begins_at at skipped bytes ≡ true
    → begins_at total skipped bytes ≡ begins_at more 0 (drop at bytes)
unfolding begins_at
past zero zero [] more total sum is = ap (λ (n : ℕ). begins_at n 0 []) (omega (arith, sum))
past zero zero (byte ∷ bytes) more total sum is = ap (λ (n : ℕ). begins_at n 0 (byte ∷ bytes)) (omega (arith, sum))
past zero (suc skipped) bytes more total sum is = absurd cc
past (suc at) skipped [] more total sum is = absurd cc
past (suc at) zero (byte ∷ bytes) more zero sum is = absurd (omega (arith, sum))
past (suc at) zero (byte ∷ bytes) more (suc total) sum is =
    past at (symbol_len Log (byte ∷ bytes) - 1) bytes more total (omega (arith, sum)) is
past (suc at) (suc skipped) (byte ∷ bytes) more zero sum is = absurd (omega (arith, sum))
past (suc at) (suc skipped) (byte ∷ bytes) more (suc total) sum is = past at skipped bytes more total (omega (arith, sum)) is

inside : (at skipped : ℕ) (bytes : List ℕ) → at < skipped → begins_at at skipped bytes ≡ false
unfolding begins_at
inside at zero bytes less = absurd (omega (arith, less))
inside zero (suc skipped) bytes less = refl
inside (suc at) (suc skipped) [] less = refl
inside (suc at) (suc skipped) (byte ∷ bytes) less = inside at skipped bytes (omega (arith, less))

ends : (skipped : ℕ) (bytes : List ℕ) → skipped ≤ length bytes → begins_at skipped skipped bytes ≡ true
unfolding begins_at
ends zero bytes within = refl
ends (suc skipped) [] within = absurd (omega (arith, within))
ends (suc skipped) (byte ∷ bytes) within = ends skipped bytes (omega (arith, within))

beyond : (at skipped : ℕ) (bytes : List ℕ) → length bytes < at → begins_at at skipped bytes ≡ false
unfolding begins_at
beyond zero skipped bytes less = absurd (omega (arith, less))
beyond (suc at) skipped [] less = refl
beyond (suc at) zero (byte ∷ bytes) less = beyond at (symbol_len Log (byte ∷ bytes) - 1) bytes (omega (arith, less))
beyond (suc at) (suc skipped) (byte ∷ bytes) less = beyond at skipped bytes (omega (arith, less))

inside_first : (bytes : List ℕ) (at : ℕ) → 0 < at → at < symbol_len Log bytes → may_cut bytes at ≡ false
unfolding begins_at
inside_first bytes zero some less = absurd (omega (arith, some))
inside_first [] (suc at) some less = refl
inside_first (byte ∷ bytes) (suc at) some less = inside at (symbol_len Log (byte ∷ bytes) - 1) bytes (omega (arith, less))

after_first : (bytes : List ℕ) → 0 < length bytes → may_cut bytes (symbol_len Log bytes) ≡ true
unfolding begins_at
after_first [] some = absurd (omega (arith, some))
after_first (byte ∷ bytes) some =
    let bounds = symbol_bounds Log (byte ∷ bytes) some in
    let size : symbol_len Log (byte ∷ bytes) ≡ suc (symbol_len Log (byte ∷ bytes) - 1) = omega (arith, bounds.0) in
    ap (may_cut (byte ∷ bytes)) size ∙ ends (symbol_len Log (byte ∷ bytes) - 1) bytes (omega (arith, bounds.0, bounds.1))

-- ---- the loop

module _ (bytes : List ℕ) (at size : ℕ) (within : at < length bytes) (is : may_cut bytes at ≡ true)
    (size_is : size ≡ symbol_len Log (drop at bytes)) where
  some : 0 < length (drop at bytes)
  some = let left = length-drop at bytes in omega (arith, left, within)

  pub size_bounds : (0 < size) × (at + size ≤ length bytes)
  size_bounds =
      let bounds = symbol_bounds Log (drop at bytes) some in
      let left = length-drop at bytes in
      (omega (arith, bounds.0, size_is), omega (arith, bounds.1, size_is, left, within))

  pub next_boundary : may_cut bytes (at + size) ≡ true
  next_boundary = past at 0 bytes size (at + size) refl is ∙ ap (may_cut (drop at bytes)) size_is ∙ after_first (drop at bytes) some

  pub stops : (limit : ℕ) → at ≤ limit → limit < at + size → last_where (may_cut bytes) limit ≡ at
  stops limit low high =
      last_below (may_cut bytes) at limit low
      (λ n above under. past at 0 bytes (n - at) n (omega (arith, above)) is
      ∙ inside_first (drop at bytes) (n - at) (omega (arith, above)) (omega (arith, under, high, size_is)))
      ∙ last_is (may_cut bytes) at is

-- A limit after the end leaves the whole text.
pub whole : (bytes : List ℕ) (at limit : ℕ) → at ≡ length bytes → may_cut bytes at ≡ true → at ≤ limit
    → last_where (may_cut bytes) limit ≡ at
whole bytes at limit at_is is low =
    last_below (may_cut bytes) at limit low (λ n above under. beyond n 0 bytes (omega (arith, above, at_is)))
    ∙ last_is (may_cut bytes) at is
