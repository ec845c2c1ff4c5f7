-- The diagnostic of a line, by the parts of the line.
use Rattle.std.proofs.Common.{◌≡◌, ℕ, true, List, [], ◌∷◌, Option, None, Some, refl, ap}
use Rattle.std.specs.Prelude.{is_some, option_map}
use Rattle.std.proofs.lemmas.Option.{none-some, same_Some}
use Rattle.redo_diagnostics.specs.Diagnostic.{DiagnosticValue, PartsValue, diagnostic_from, diagnostic_of, parts_of}
use Rattle.redo_compare.specs.Occurrences.{OccurrenceValue, occurrence_if}

pub no_parts : (line : List ℕ) → diagnostic_of line ≡ None → parts_of line ≡ None
unfolding diagnostic_of
no_parts line none = by (parts_of line) none
  where
    by : (found : Option PartsValue) → option_map diagnostic_from found ≡ None → found ≡ None
    by None none = refl
    by (Some parts) some = absurd (cc)

abbrev occurrence_from : ℕ → DiagnosticValue → OccurrenceValue
occurrence_from position value = record { line = position; severity = value.severity; key = value.key; source = [] }

pub occurrence_is : (position : ℕ) (line : List ℕ) (value : DiagnosticValue) → diagnostic_of line ≡ Some value
    → (occurrence_if position (parts_of line) [] [] ≡ occurrence_from position value ∷ []) × (is_some (parts_of line) ≡ true)
unfolding diagnostic_of
occurrence_is position line value is = by (parts_of line) is
  where
    by : (found : Option PartsValue) → option_map diagnostic_from found ≡ Some value
        → (occurrence_if position found [] [] ≡ occurrence_from position value ∷ []) × (is_some found ≡ true)
    by None none = absurd (none-some value none)
    by (Some parts) some =
        (ap (λ (one : DiagnosticValue). occurrence_from position one ∷ []) (same_Some (diagnostic_from parts) value some), refl)
