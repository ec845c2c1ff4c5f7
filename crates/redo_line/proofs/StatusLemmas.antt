-- The value of a status, by whether it begins with a minus.
use Rattle.std.proofs.Common.{◌≡◌, ℕ, ◌<◌, ◌^◌, List, [], ◌∷◌, None, Some, pos, neg_ℤ, ◌-ℤ◌, w32, to_z, of_z, refl, ap, ◌∙◌, arith}
use Rattle.std.proofs.lemmas.Int.{ints}
use Rattle.redo_line.specs.Decimal.{number_of}
use Rattle.redo_line.specs.Parts.{after_prefix}
use Rattle.redo_line.specs.Record.{minus, status_of}

plain : (value : ℕ) → value < 10 ^ 9 → to_z w32 value ≡ pos value
plain value small = omega (arith, ints)

negative : (value : ℕ) → value < 10 ^ 9 → to_z w32 (of_z w32 (pos 0 -ℤ to_z w32 value)) ≡ neg_ℤ (pos value)
negative value small = omega (arith, ints)

module _ (status digits : List ℕ) (is : after_prefix (minus ∷ []) status ≡ Some digits) where
  pub negative_status : (value : ℕ) → Some value ≡ number_of 9 digits → value < 10 ^ 9
      → Some (to_z w32 (of_z w32 (pos 0 -ℤ to_z w32 value))) ≡ status_of status
  unfolding status_of
  negative_status value value_is small = ap Some (negative value small) ∙ rw (is, ← value_is) refl

  pub no_negative_status : None ≡ number_of 9 digits → None ≡ status_of status
  unfolding status_of
  no_negative_status none = rw (is, ← none) refl

module _ (status : List ℕ) (is : after_prefix (minus ∷ []) status ≡ None) where
  pub plain_status : (value : ℕ) → Some value ≡ number_of 9 status → value < 10 ^ 9 → Some (to_z w32 value) ≡ status_of status
  unfolding status_of
  plain_status value value_is small = ap Some (plain value small) ∙ rw (is, ← value_is) refl

  pub no_plain_status : None ≡ number_of 9 status → None ≡ status_of status
  unfolding status_of
  no_plain_status none = rw (is, ← none) refl
