-- The laws about diagnostics of logs.
use Rattle.std.proofs.Common.{◌≡◌, ℕ, suc, ◌+◌, List, [], ◌∷◌, ◌++◌, Option, None, Some, filter_map, option_and_then, slice_get, refl, ap, ◌∙◌, arith}
use Rattle.std.specs.List.{AllByRecursion, cons_option}
use Rattle.redo_diagnostics.specs.Counts.{numbered_after, times_of}
use Rattle.redo_diagnostics.specs.Diagnostic.{DiagnosticValue, diagnostic_of}
use Rattle.redo_json.specs.Diagnostics.{LogDiagnostic, diagnostics_of, numbered_from, placed_from, placed_if}
use Rattle.redo_json.specs.Laws.{IsOfLine, ids_in, keys_in, found_values}

pub all_are : (keys : List (List ℕ)) (position : ℕ) (lines : List (List ℕ))
    → found_values (numbered_from keys (placed_from position lines)) ≡ filter_map diagnostic_of lines
all_are keys position [] = refl
all_are keys position (line ∷ lines) =
    by (diagnostic_of line) (all_are keys (suc position) lines) (λ key. all_are (keys ++ key ∷ []) (suc position) lines)
  where
    by : (found : Option DiagnosticValue)
        → found_values (numbered_from keys (placed_from (suc position) lines)) ≡ filter_map diagnostic_of lines
        → ((key : List ℕ) → found_values (numbered_from (keys ++ key ∷ []) (placed_from (suc position) lines))
        ≡ filter_map diagnostic_of lines)
        → found_values (numbered_from keys (placed_if position found (placed_from (suc position) lines)))
        ≡ cons_option found (filter_map diagnostic_of lines)
    by None others after = others
    by (Some value) others after = ap (λ (l : List DiagnosticValue). value ∷ l) (after value.key)

pub ids_are : (keys : List (List ℕ)) (placed : List (ℕ × DiagnosticValue))
    → ids_in (numbered_from keys placed) ≡ numbered_after keys (keys_in (numbered_from keys placed))
ids_are keys [] = refl
ids_are keys (one ∷ others) =
    ap (λ (l : List (List ℕ × ℕ)). (one.1.key, times_of one.1.key keys) ∷ l) (ids_are (keys ++ one.1.key ∷ []) others)

-- The line of a diagnostic is at this distance from a position.
record IsPlaced (position : ℕ) (lines : List (List ℕ)) (one : LogDiagnostic) : Type 0 where
  distance : ℕ
  line : one.line ≡ position + distance
  says : option_and_then (λ (line : List ℕ). diagnostic_of line) (slice_get lines distance) ≡ Some one.value

later : (position : ℕ) (line : List ℕ) (lines : List (List ℕ)) (found : List LogDiagnostic)
    → AllByRecursion (IsPlaced (suc position) lines) found → AllByRecursion (IsPlaced position (line ∷ lines)) found
later position line lines [] all = tt
later position line lines (one ∷ found) all =
    let place = all.0.line in (
      record { distance = suc all.0.distance; line = omega (arith, place); says = all.0.says },
      later position line lines found all.1,
    )

placed_are : (keys : List (List ℕ)) (position : ℕ) (lines : List (List ℕ))
    → AllByRecursion (IsPlaced position lines) (numbered_from keys (placed_from position lines))
placed_are keys position [] = tt
placed_are keys position (line ∷ lines) =
    by (diagnostic_of line) refl (placed_are keys (suc position) lines) (λ key. placed_are (keys ++ key ∷ []) (suc position) lines)
  where
    by : (found : Option DiagnosticValue) → diagnostic_of line ≡ found
        → AllByRecursion (IsPlaced (suc position) lines) (numbered_from keys (placed_from (suc position) lines))
        → ((key : List ℕ)
        → AllByRecursion (IsPlaced (suc position) lines) (numbered_from (keys ++ key ∷ []) (placed_from (suc position) lines)))
        → AllByRecursion (IsPlaced position (line ∷ lines)) (numbered_from keys (placed_if position found (placed_from (suc position)
        lines)))
    by None is others after = later position line lines (numbered_from keys (placed_from (suc position) lines)) others
    by (Some value) is others after = (
      record { distance = 0; line = omega arith; says = is },
      later position line lines (numbered_from (keys ++ value.key ∷ []) (placed_from (suc position) lines)) (after value.key),
    )

at_lines : (lines : List (List ℕ)) (found : List LogDiagnostic) → AllByRecursion (IsPlaced 0 lines) found
    → AllByRecursion (IsOfLine lines) found
at_lines lines [] all = tt
at_lines lines (one ∷ found) all =
    let place = all.0.line in
    let same : one.line ≡ all.0.distance = omega (arith, place) in (
      ap (λ (n : ℕ). option_and_then (λ (line : List ℕ). diagnostic_of line) (slice_get lines n)) same ∙ all.0.says,
      at_lines lines found all.1,
    )

pub places_are : (lines : List (List ℕ)) → AllByRecursion (IsOfLine lines) (diagnostics_of lines)
places_are lines = at_lines lines (diagnostics_of lines) (placed_are [] 0 lines)
