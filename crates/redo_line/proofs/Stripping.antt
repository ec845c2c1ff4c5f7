-- The bytes after a prefix, by the tests of slices.
use Rattle.std.proofs.Common.{◌≡◌, ℕ, ◌==◌, nat_eq, Bool, true, false, List, [], ◌∷◌, Option, None, Some, length, take, drop, refl, sym, ap, ◌∙◌}
use Rattle.std.specs.Prelude.{if◌then◌else◌}
use Rattle.std.specs.Cmp.Lexicographic.{nat_list_eq_equiv, pointwise}
use Rattle.redo_line.specs.Parts.{after_prefix}

-- The bytes after a prefix, by the test for the prefix.
abbrev stripped : Bool → List ℕ → List ℕ → Option (List ℕ)
stripped begins front bytes = if begins then Some (drop (length front) bytes) else None

one_more : (same : Bool) (first byte : ℕ) (front bytes : List ℕ) → (first == byte) ≡ same
    → after_prefix front bytes ≡ stripped (pointwise nat_eq front (take (length front) bytes)) front bytes
    → after_prefix (first ∷ front) (byte ∷ bytes)
    ≡ stripped (pointwise nat_eq (first ∷ front) (byte ∷ take (length front) bytes)) (first ∷ front) (byte ∷ bytes)
unfolding after_prefix
one_more true first byte front bytes is later = rw (is) later
one_more false first byte front bytes is later = rw (is) refl

behind_is : (front bytes : List ℕ) → after_prefix front bytes ≡ stripped (pointwise nat_eq front (take (length front) bytes)) front bytes
unfolding after_prefix
behind_is [] bytes = refl
behind_is (first ∷ front) [] = refl
behind_is (first ∷ front) (byte ∷ bytes) = one_more (first == byte) first byte front bytes refl (behind_is front bytes)

pub behind_begins : (front bytes : List ℕ) → pointwise nat_eq front (take (length front) bytes) ≡ true
    → after_prefix front bytes ≡ Some (drop (length front) bytes)
behind_begins front bytes is = behind_is front bytes ∙ ap (λ b. stripped b front bytes) is

pub behind_none : (front bytes : List ℕ) → pointwise nat_eq front (take (length front) bytes) ≡ false → after_prefix front bytes ≡ None
behind_none front bytes is = behind_is front bytes ∙ ap (λ b. stripped b front bytes) is

-- The result of `strip_prefix`.
pub strips : (front bytes after : List ℕ) → pointwise nat_eq (take (length front) bytes) front ≡ true → after ≡ drop (length front) bytes
    → after_prefix front bytes ≡ Some after
strips front bytes after is after_is =
    behind_begins front bytes (sym (nat_list_eq_equiv.symm (take (length front) bytes) front) ∙ is) ∙ ap Some (sym after_is)

pub strips_not : (front bytes : List ℕ) → pointwise nat_eq (take (length front) bytes) front ≡ false → after_prefix front bytes ≡ None
strips_not front bytes is = behind_none front bytes (sym (nat_list_eq_equiv.symm (take (length front) bytes) front) ∙ is)
