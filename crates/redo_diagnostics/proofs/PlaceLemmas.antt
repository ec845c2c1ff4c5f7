-- A place, by its file.
use Rattle.std.proofs.Common.{◌≡◌, ℕ, true, false, List, [], ◌∷◌, Option, None, Some, length, refl, arith}
use Rattle.std.specs.Prelude.{nat_eq}
use Rattle.std.proofs.lemmas.Bool.{eqb-true}
use Rattle.redo_diagnostics.specs.Diagnostic.{place_from}

pub empty_file : (file : List ℕ) (numbers : Option (ℕ × Option ℕ)) → nat_eq (length file) 0 ≡ true → place_from file numbers ≡ None
empty_file [] numbers is = refl
empty_file (byte ∷ bytes) numbers is = absurd (let none = eqb-true (length (byte ∷ bytes)) 0 is in omega (arith, none))

pub no_numbers : (file : List ℕ) → place_from file None ≡ None
no_numbers [] = refl
no_numbers (byte ∷ bytes) = refl

pub some_file : (file : List ℕ) (numbers : ℕ × Option ℕ) → nat_eq (length file) 0 ≡ false
    → place_from file (Some numbers) ≡ Some (record { file = file; row = numbers.0; column = numbers.1 })
some_file [] numbers is = absurd (cc)
some_file (byte ∷ bytes) numbers is = refl
