-- The step of an axis.
use Rattle.std.proofs.Common.{◌≡◌, ℕ, suc, ◌+◌, ◌*◌, ◌/◌, ◌^◌, ◌<◌, ◌≤◌, ◌⊎◌, inl, inr, Bool, true, false, cond, List, [], ◌∷◌, Option, Some, None, length, get_or, drop, refl, sym, ap, ◌∙◌, arith, rules, drop-cons}
use Rattle.std.specs.Prelude.{◌||◌, min, nat_le}
use Rattle.std.specs.List.{AllByRecursion, find, list_any}
use Rattle.std.specs.Option.{unwrap_or}
use Rattle.std.proofs.Math.Nat.{div-le_of_le-mul}
use Rattle.std.proofs.lemmas.Bool.{le-leb, leb-true, lt-leb}
use Rattle.std.proofs.lemmas.Bool.Decides.{leb_tells}
use Rattle.std.proofs.lemmas.List.{drop_all}
use Rattle.std.proofs.lemmas.List.Folds.{list_any_at}
use Rattle.redo_units.specs.Ticks.{axis_steps, tick_step_of}

-- ---- the first number that passes a test

module _ (p : ℕ → Bool) where
  module _ (xs : List ℕ) (i d : ℕ) where
    split : i < length xs → find p (drop i xs) ≡ cond (p (get_or xs i d)) (Some (get_or xs i d)) (find p (drop (i + 1) xs))
    split below = let next : suc i ≡ i + 1 = omega arith in
        ap (find p) (drop-cons xs i d below) ∙ ap (λ (n : ℕ). cond (p (get_or xs i d)) (Some (get_or xs i d)) (find p (drop n xs))) next

    pub passed : i < length xs → p (get_or xs i d) ≡ false → find p (drop i xs) ≡ find p xs → find p (drop (i + 1) xs) ≡ find p xs
    passed below fails before = sym (split below ∙ ap (λ (b : Bool). cond b (Some (get_or xs i d)) (find p (drop (i + 1) xs))) fails)
        ∙ before

    pub found : i < length xs → p (get_or xs i d) ≡ true → find p (drop i xs) ≡ find p xs → find p xs ≡ Some (get_or xs i d)
    found below passes before = sym before ∙ split below
        ∙ ap (λ (b : Bool). cond b (Some (get_or xs i d)) (find p (drop (i + 1) xs))) passes

    pub not_found : length xs ≤ i → find p (drop i xs) ≡ find p xs → find p xs ≡ None
    not_found done before = sym before ∙ ap (find p) (drop_all i xs done)

  -- The result passes. Otherwise it is the default, and no number passes.
  Outcome : ℕ → ℕ → Bool → Type 0
  Outcome default result any = ((0 < result) × (p result ≡ true)) ⊎ ((result ≡ default) × (any ≡ false))

  outcome-cons : (default x : ℕ) (b : Bool) (rest : Option ℕ) (any : Bool) → 0 < x → p x ≡ b → Outcome default (unwrap_or rest default) any
      → Outcome default (unwrap_or (cond b (Some x) rest) default) (b || any)
  unfolding Outcome
  outcome-cons default x true rest any positive passes outcome = inl (positive, passes)
  outcome-cons default x false rest any positive passes outcome = outcome

  outcome : (default : ℕ) (xs : List ℕ) → AllByRecursion (λ x. 0 < x) xs → Outcome default (unwrap_or (find p xs) default) (list_any p xs)
  unfolding Outcome
  outcome default [] all = inr (refl, refl)
  outcome default (x ∷ xs) all = outcome-cons default x (p x) (find p xs) (list_any p xs) all.0 refl (outcome default xs all.1)

-- ---- the step of an axis

module _ (width : ℕ) where
  abbrev pub suffices : ℕ → Bool
  suffices step = nat_le width (step * 10)

  -- `product` is ten times the step, but at most 2^64 - 1.
  module _ (i d product : ℕ) where
    pub step_passed : i < length axis_steps → product ≡ min (get_or axis_steps i d * 10) 18446744073709551615 → product < width
        → width < 2 ^ 64 → find suffices (drop i axis_steps) ≡ find suffices axis_steps
        → find suffices (drop (i + 1) axis_steps) ≡ find suffices axis_steps
    step_passed below is less fits before =
        passed suffices axis_steps i d below (lt-leb width (get_or axis_steps i d * 10) (omega (arith, is, less, fits))) before

    pub step_found : i < length axis_steps → product ≡ min (get_or axis_steps i d * 10) 18446744073709551615 → width ≤ product
        → find suffices (drop i axis_steps) ≡ find suffices axis_steps → get_or axis_steps i d ≡ tick_step_of width
    unfolding tick_step_of
    step_found below is le before = sym
        (ap (λ (o : Option ℕ). unwrap_or o width)
        (found suffices axis_steps i d below (le-leb width (get_or axis_steps i d * 10) (omega (arith, is, le))) before))

  pub no_step_found : (i : ℕ) → length axis_steps ≤ i → find suffices (drop i axis_steps) ≡ find suffices axis_steps
      → width ≡ tick_step_of width
  unfolding tick_step_of
  no_step_found i done before = sym (ap (λ (o : Option ℕ). unwrap_or o width) (not_found suffices axis_steps i 0 done before))

  steps_positive : AllByRecursion (λ step. 0 < step) axis_steps
  steps_positive = search rules

  bounds : (step : ℕ) → Outcome suffices width step (list_any suffices axis_steps) → (0 < step) × (width ≤ step * 10)
  unfolding Outcome
  bounds step (inl (positive, passes)) = (positive, leb-true width (step * 10) passes)
  bounds step (inr (same, none)) = grind (arith, leb_tells, list_any_at suffices axis_steps 25 0)

  tick_bounds : (0 < tick_step_of width) × (width ≤ tick_step_of width * 10)
  unfolding tick_step_of
  tick_bounds = bounds (unwrap_or (find suffices axis_steps) width) (outcome suffices width axis_steps steps_positive)

  pub step_is_positive : 0 < tick_step_of width
  step_is_positive = tick_bounds.0

  pub at_most_10_steps : width / tick_step_of width ≤ 10
  at_most_10_steps = div-le_of_le-mul (tick_step_of width) tick_bounds.1
