-- Splitting bytes into two parts: at the first byte with a given value, and after a prefix.
use Rattle.std.proofs.Common.{◌≡◌, ◌≢◌, ℕ, Bool, true, false, cond, eqb, List, [], ◌∷◌, ◌++◌, Option, None, Some, take, drop, refl, sym, ◌∙◌, ap, subst}
use Rattle.std.specs.List.{AllByRecursion}
use Rattle.std.specs.Option.{option_map}
use Rattle.std.proofs.lemmas.Bool.{eq-eqb, ne_eqb, eqb-true, eqb-false}
use Rattle.std.proofs.lemmas.List.{take-append-drop}
use Rattle.std.proofs.lemmas.Option.{none-some, same_Some}
use Rattle.redo_line.specs.Parts.{split_once, after_prefix}

-- None of the bytes is `at`.
abbrev pub HasNo : ℕ → List ℕ → Type 0
HasNo at bytes = AllByRecursion (λ byte. byte ≢ at) bytes

pub free-append : (at : ℕ) (a b : List ℕ) → HasNo at a → HasNo at b → HasNo at (a ++ b)
free-append at [] b first after_prefix = after_prefix
free-append at (byte ∷ a) b first after_prefix = (first.0, free-append at a b first.1 after_prefix)

pub free_parts : (at : ℕ) (a b : List ℕ) → HasNo at (a ++ b) → HasNo at a × HasNo at b
free_parts at [] b all = (tt, all)
free_parts at (byte ∷ a) b all = let parts = free_parts at a b all.1 in ((all.0, parts.0), parts.1)

pub free_drop : (at n : ℕ) (bytes : List ℕ) → HasNo at bytes → HasNo at (drop n bytes)
free_drop at n bytes all = (free_parts at (take n bytes) (drop n bytes) (subst (HasNo at) (sym (take-append-drop n bytes)) all)).1

-- The bytes before and after the first byte `at`.
pub record AreParts (at : ℕ) (bytes : List ℕ) (parts : List ℕ × List ℕ) : Type 0 where
  pub whole : bytes ≡ parts.0 ++ at ∷ parts.1
  pub free : HasNo at parts.0

-- One more byte before bytes that were split.
abbrev pub onto : ℕ → List ℕ × List ℕ → List ℕ × List ℕ
onto byte parts = (byte ∷ parts.0, parts.1)

abbrev pub cut_by : Bool → ℕ → List ℕ → Option (List ℕ × List ℕ) → Option (List ℕ × List ℕ)
cut_by is byte bytes cut = cond is (Some ([], bytes)) (option_map (onto byte) cut)

parts_by : (at byte : ℕ) (bytes : List ℕ) (is : Bool) (cut : Option (List ℕ × List ℕ)) (parts : List ℕ × List ℕ) → eqb byte at ≡ is
    → ((others : List ℕ × List ℕ) → cut ≡ Some others → AreParts at bytes others) → cut_by is byte bytes cut ≡ Some parts
    → AreParts at (byte ∷ bytes) parts
parts_by at byte bytes true cut parts is sound so =
    subst (AreParts at (byte ∷ bytes)) (same_Some ([], bytes) parts so)
    (record { whole = ap (λ (b : ℕ). b ∷ bytes) (eqb-true byte at is); free = tt })
parts_by at byte bytes false None parts is sound so = absurd (none-some parts so)
parts_by at byte bytes false (Some others) parts is sound so =
    let are = sound others refl in
    subst (AreParts at (byte ∷ bytes)) (same_Some (onto byte others) parts so)
    (record { whole = ap (λ (bs : List ℕ). byte ∷ bs) are.whole; free = (eqb-false byte at is, are.free) })

-- The parts that `split_once` gives satisfy `AreParts`.
pub are_parts : (at : ℕ) (bytes : List ℕ) (parts : List ℕ × List ℕ) → split_once at bytes ≡ Some parts → AreParts at bytes parts
unfolding split_once
are_parts at [] parts so = absurd (none-some parts so)
are_parts at (byte ∷ bytes) parts so =
    parts_by at byte bytes (eqb byte at) (split_once at bytes) parts refl (λ others cut. are_parts at bytes others cut) so

pub split_once-cons : (at byte : ℕ) (bytes : List ℕ) (is : Bool) → eqb byte at ≡ is
    → split_once at (byte ∷ bytes) ≡ cut_by is byte bytes (split_once at bytes)
unfolding split_once
split_once-cons at byte bytes is h = ap (λ (b : Bool). cut_by b byte bytes (split_once at bytes)) h

-- `split_once` gives such parts if they exist.
pub parted_at : (at : ℕ) (a b : List ℕ) → HasNo at a → split_once at (a ++ at ∷ b) ≡ Some (a, b)
parted_at at [] b free = split_once-cons at at b true (eq-eqb at at refl)
parted_at at (byte ∷ a) b free = split_once-cons at byte (a ++ at ∷ b) false (ne_eqb byte at free.0)
    ∙ ap (option_map (onto byte)) (parted_at at a b free.1)

-- Without such a byte there are no parts.
pub parted_free : (at : ℕ) (bytes : List ℕ) → HasNo at bytes → split_once at bytes ≡ None
unfolding split_once
parted_free at [] free = refl
parted_free at (byte ∷ bytes) free =
    split_once-cons at byte bytes false (ne_eqb byte at free.0) ∙ ap (option_map (onto byte)) (parted_free at bytes free.1)

-- The bytes after a prefix.
pub behind_front : (front rest : List ℕ) → after_prefix front (front ++ rest) ≡ Some rest
unfolding after_prefix
behind_front [] rest = refl
behind_front (byte ∷ front) rest = ap (λ (b : Bool). cond b (after_prefix front (front ++ rest)) None) (eq-eqb byte byte refl)
    ∙ behind_front front rest

front_by : (first byte : ℕ) (front bytes rest : List ℕ) (is : Bool) (found : Option (List ℕ)) → eqb first byte ≡ is
    → (found ≡ Some rest → bytes ≡ front ++ rest)
    → cond is found None ≡ Some rest → byte ∷ bytes ≡ (first ∷ front) ++ rest
front_by first byte front bytes rest true found is sound so =
    ap (λ (b : ℕ). b ∷ bytes) (sym (eqb-true first byte is)) ∙ ap (λ (bs : List ℕ). first ∷ bs) (sound so)
front_by first byte front bytes rest false found is sound so = absurd (none-some rest so)

pub front_whole : (front bytes rest : List ℕ) → after_prefix front bytes ≡ Some rest → bytes ≡ front ++ rest
unfolding after_prefix
front_whole [] bytes rest so = same_Some bytes rest so
front_whole (first ∷ front) [] rest so = absurd (none-some rest so)
front_whole (first ∷ front) (byte ∷ bytes) rest so =
    front_by first byte front bytes rest (eqb first byte) (after_prefix front bytes) refl (front_whole front bytes rest) so

-- Bytes without such a byte don't begin with it.
pub behind_free : (at : ℕ) (bytes : List ℕ) → HasNo at bytes → after_prefix (at ∷ []) bytes ≡ None
unfolding after_prefix
behind_free at [] free = refl
behind_free at (byte ∷ bytes) free = ap (λ (b : Bool). cond b (Some bytes) None) (ne_eqb at byte (λ e. free.0 (sym e)))
