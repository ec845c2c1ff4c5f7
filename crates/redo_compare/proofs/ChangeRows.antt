-- Rows of what is new in a target, and gone.
use Rattle.std.proofs.Common.{◌≡◌, ℕ, [], ◌∷◌, None, Some, refl}
use Rattle.std.specs.Prelude.{codes}
use Rattle.redo_diagnostics.specs.declared.severity.Severity.TheVariants.{Warning}
use Rattle.redo_compare.specs.Changes.{gone_in_target, new_in_target}
use Rattle.redo_compare.specs.Laws.{key_count, kind_count}
use Rattle.redo_compare.specs.Occurrences.{OccurrenceValue}

abbrev one : ℕ → OccurrenceValue
one line = record { line = line; severity = Warning; key = codes "k"; source = codes "s" }

abbrev other : ℕ → OccurrenceValue
other line = record { line = line; severity = Warning; key = codes "j"; source = codes "s" }

these_new : (new_in_target (Some (one 0 ∷ [])) (Some (one 1 ∷ other 2 ∷ [])) ≡ other 2 ∷ [])
    × (new_in_target None (Some (one 1 ∷ other 2 ∷ [])) ≡ one 1 ∷ other 2 ∷ [])
    × (new_in_target (Some (one 0 ∷ other 1 ∷ [])) None ≡ []) × (new_in_target None None ≡ [])
these_new = (refl, refl, refl, refl)

these_gone : (gone_in_target (Some (one 1 ∷ other 2 ∷ [])) (Some (one 0 ∷ [])) ≡ other 2 ∷ [])
    × (gone_in_target (Some (one 1 ∷ other 2 ∷ [])) None ≡ [])
    × (gone_in_target (Some (one 1 ∷ [])) (Some []) ≡ one 1 ∷ []) × (gone_in_target None (Some (one 1 ∷ other 2 ∷ [])) ≡ [])
these_gone = (refl, refl, refl, refl)

these_counts : (key_count (codes "k") (one 0 ∷ other 1 ∷ one 2 ∷ []) ≡ 2) × (key_count (codes "x") (one 0 ∷ []) ≡ 0)
    × (kind_count (codes "k") (codes "s") (one 0 ∷ other 1 ∷ []) ≡ 1) × (kind_count (codes "k") (codes "t") (one 0 ∷ []) ≡ 0)
these_counts = (refl, refl, refl, refl)
