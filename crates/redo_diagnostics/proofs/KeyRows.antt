-- Rows of keys.
use Rattle.std.proofs.Common.{◌≡◌, ℕ, zero, suc, ◌+◌, ◌<◌, List, [], ◌∷◌, None, refl, arith}
use Rattle.std.specs.Prelude.{codes}
use Rattle.memchr.specs.Find.{OccursAt}
use Rattle.memchr.proofs.lemmas.MatchLemmas.{OccursAt-true}
use Rattle.redo_line.specs.Parts.{split_once}
use Rattle.redo_diagnostics.specs.declared.severity.Severity.TheVariants.{Error}
use Rattle.redo_diagnostics.specs.Diagnostic.{DiagnosticValue, HasNoTemporary, with_key}
use Rattle.redo_diagnostics.specs.Keys.{hash_parts}

these_parts : (hash_parts (codes "a.c: error: b: c") ≡ codes "error: b: c" ∷ codes "a.c" ∷ [])
    × (hash_parts (codes ": error: b") ≡ codes "error: b" ∷ [] ∷ []) × (hash_parts (codes "a") ≡ codes "a" ∷ [])
unfolding split_once
these_parts = (refl, refl, refl)

abbrev value : DiagnosticValue
value = record { severity = Error; place = None; message = codes "b"; flag = None; key = codes "a.c: error: b" }

this_key : with_key value ≡ (value, codes "a.c: error: b")
this_key = refl

-- A name of a temporary file, and no other one.
these_names : (HasNoTemporary (codes "as /tmp/ccAbCdEf.s") → ⊥) × HasNoTemporary (codes "/c/c")
these_names = (λ none. none 7 (OccursAt-true (codes "as /tmp/ccAbCdEf.s") (codes "/cc") 7 refl), none_there)
  where
    none_there : (place : ℕ) → OccursAt (codes "/c/c") (codes "/cc") place → ⊥
    none_there zero occurs = let third = occurs.reads 2 (omega arith) in absurd (omega (arith, third))
    none_there (suc zero) occurs = let first = occurs.reads 0 (omega arith) in absurd (omega (arith, first))
    none_there (suc (suc place)) occurs = let fits = occurs.fits in absurd (omega (arith, fits))
