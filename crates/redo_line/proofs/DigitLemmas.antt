-- Digits: what the tests decide, and that digits contain no other byte.
use Rattle.std.proofs.Common.{◌≡◌, ℕ, ◌≤◌, Bool, false, leb, ◌&&◌, List, [], ◌∷◌, length, refl, subst}
use Rattle.std.specs.Bool.{Decides}
use Rattle.std.specs.Char.{is_ascii_digit}
use Rattle.std.specs.List.{AllByRecursion, list_all}
use Rattle.std.proofs.lemmas.Bool.{leb-true, le-leb}
use Rattle.std.proofs.lemmas.Bool.Decides.{not_from_Decides, Decides-and, Decides-like}
use Rattle.redo_line.specs.Decimal.{AreDigits, are_digits}
use Rattle.redo_line.proofs.PartLemmas.{HasNo}

pub leb-Decides : (a b : ℕ) → Decides (leb a b) (a ≤ b)
leb-Decides a b = (leb-true a b, le-leb a b)

-- A test of each element.
pub list_all-Decides : {X : Type 0} (test : X → Bool) (P : X → Type 0) → ((x : X) → Decides (test x) (P x)) → (xs : List X)
    → Decides (list_all test xs) (AllByRecursion P xs)
list_all-Decides test P each [] = (λ is. tt, λ holds. refl)
list_all-Decides test P each (x ∷ xs) = Decides-and (test x) (list_all test xs) (each x) (list_all-Decides test P each xs)

abbrev IsDigit : ℕ → Type 0
IsDigit byte = (48 ≤ byte) × (byte ≤ 57)

digit-Decides : (byte : ℕ) → Decides (is_ascii_digit byte) (IsDigit byte)
digit-Decides byte = Decides-and (leb 48 byte) (leb byte 57) (leb-Decides 48 byte) (leb-Decides byte 57)

pub are_digits-Decides : (most : ℕ) (bytes : List ℕ) → Decides (are_digits most bytes) (AreDigits most bytes)
are_digits-Decides most bytes =
    let size = Decides-and (leb 1 (length bytes)) (leb (length bytes) most) (leb-Decides 1 (length bytes))
    (leb-Decides (length bytes) most) in
    let each = list_all-Decides is_ascii_digit IsDigit digit-Decides bytes in
    Decides-like (are_digits most bytes) (λ so. record { some = so.0.0; few = so.0.1; each = so.1 })
    (λ are. ((are.some, are.few), are.each))
    (Decides-and (leb 1 (length bytes) && leb (length bytes) most) (list_all is_ascii_digit bytes) size each)

each-free : (at : ℕ) (bytes : List ℕ) → (IsDigit at → ⊥) → AllByRecursion IsDigit bytes → HasNo at bytes
each-free at [] other each = tt
each-free at (byte ∷ bytes) other each = ((λ same. other (subst IsDigit same each.0)), each-free at bytes other each.1)

-- A byte that isn't a digit is not among digits.
pub digits_free : (most at : ℕ) (bytes : List ℕ) → is_ascii_digit at ≡ false → AreDigits most bytes → HasNo at bytes
digits_free most at bytes other are = each-free at bytes (not_from_Decides (is_ascii_digit at) (digit-Decides at) other) are.each
