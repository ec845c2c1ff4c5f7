-- Rows of normal forms: the target in whose log the name is, or none; the name; and its normal form.
use Rattle.std.proofs.Common.{◌≡◌, ℕ, List, [], ◌∷◌, Option, None, Some, refl}
use Rattle.std.specs.Prelude.{codes}
use Rattle.std.specs.List.{AllByRecursion}
use Rattle.redo_name.specs.Laws.{IsOrdinary, IsRelative}
use Rattle.redo_name.specs.Names.{dot, dot_dot, reduce_suffix, normal, HasNoSlash, IsNormal}

record Row : Type 0 where
  target : Option (List ℕ)
  name : List ℕ
  value : Option (List ℕ)

abbrev row : Option (List ℕ) → List ℕ → Option (List ℕ) → Row
row target name value = record { target = target; name = name; value = value }

abbrev rows : List Row
rows =
    row None (codes "a//b/./c") (Some (codes "a/b/c")) ∷
    row None (codes "a/") (Some (codes "a")) ∷
    row None (codes "a/..") (Some (codes ".")) ∷
    row None (codes "./") (Some (codes ".")) ∷
    row None (codes "../../x") (Some (codes "../../x")) ∷
    row None (codes "x/../../y") (Some (codes "../y")) ∷
    row None (codes "/") (Some (codes "/")) ∷
    row None (codes "/..//a/") (Some (codes "/a")) ∷
    row None [] None ∷
    row (Some (codes "all")) (codes "a.o") (Some (codes "a.o")) ∷
    row (Some (codes "d/a")) (codes "../e//x") (Some (codes "e/x")) ∷
    row (Some (codes "d/a")) (codes "b") (Some (codes "d/b")) ∷
    row (Some (codes "d/e/a")) (codes "../../../x") (Some (codes "../x")) ∷
    row (Some (codes "d/a")) (codes "/z") (Some (codes "/z")) ∷
    row (Some (codes "/a")) (codes "../x") (Some (codes "/x")) ∷
    row (Some (codes "/p/a")) (codes "b/../c") (Some (codes "/p/c")) ∷
    row (Some (codes "../a")) (codes "b") (Some (codes "../b")) ∷
    row (Some (codes ".")) (codes "b") (Some (codes "b")) ∷
    row (Some (codes "..")) (codes "b") (Some (codes "b")) ∷ []

computed : AllByRecursion (λ r. normal r.target r.name ≡ r.value) rows
unfolding reduce_suffix normal
computed = (
  refl,
  (
    refl,
    (
      refl,
      (
        refl,
        (refl, (refl, (refl, (refl, (refl, (refl, (refl, (refl, (refl, (refl, (refl, (refl, (refl, (refl, (refl, tt))))))))))))))),
      ),
    ),
  ),
)

-- A normal form is its own normal form; other names are not.
normal_forms : IsNormal (codes "../a/b") × IsNormal (codes "/") × IsNormal (codes ".") × (IsNormal (codes "a/") → ⊥) × (IsNormal [] → ⊥)
unfolding reduce_suffix normal
normal_forms = (refl, refl, refl, (λ is. cc), (λ is. cc))

-- The premises of the laws hold for the names that they are meant for, and not for others.
premises : HasNoSlash (codes "a.b") × IsRelative (codes "a/b") × IsOrdinary (codes "..a")
premises = (((λ same. cc), ((λ same. cc), ((λ same. cc), tt))), ((λ same. cc), refl), ((λ same. cc), (λ same. cc), (λ same. cc)))

no_premises : (HasNoSlash (codes "a/b") → ⊥) × (IsRelative (codes "/a") → ⊥) × (IsRelative [] → ⊥) × (IsOrdinary [] → ⊥)
    × (IsOrdinary dot → ⊥) × (IsOrdinary dot_dot → ⊥)
no_premises = (
  (λ is. is.1.0 refl),
  (λ is. let same = is.1 in cc),
  (λ is. is.0 refl),
  (λ is. is.0 refl),
  (λ is. is.1 refl),
  (λ is. is.2 refl),
)
