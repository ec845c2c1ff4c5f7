-- The diagnostics of a log when another line is added.
use Rattle.std.proofs.Common.{◌≡◌, ℕ, suc, ◌+◌, Bool, true, false, List, [], ◌∷◌, ◌++◌, Option, None, Some, length, refl, sym, ap, ◌∙◌, arith}
use Rattle.std.specs.Prelude.{is_some}
use Rattle.std.proofs.lemmas.Bool.{false≢true}
use Rattle.redo_diagnostics.specs.Diagnostic.{PartsValue, key_of, parts_of}
use Rattle.redo_compare.specs.Occurrences.{OccurrenceValue, ends_with_diagnostic, occurrence_if, occurrences_from}
use Rattle.redo_compare.specs.Private.Finding.{with_last_source, with_source_if}
use Rattle.redo_compare.specs.Source.{source_of}

pub with_last_source-last : (source : List ℕ) (front : List OccurrenceValue) (last : OccurrenceValue)
    → with_last_source source (front ++ last ∷ []) ≡ front ++ record last { source = source } ∷ []
with_last_source-last source [] last = refl
with_last_source-last source (one ∷ []) last = refl
with_last_source-last source (one ∷ next ∷ front) last =
    ap (λ (l : List OccurrenceValue). one ∷ l) (with_last_source-last source (next ∷ front) last)

-- If the last line is a diagnostic, there is one.
some-found : (position : ℕ) (lines : List (List ℕ)) → ends_with_diagnostic lines ≡ true → occurrences_from position lines ≡ [] → ⊥
some-found position [] is none = false≢true is
some-found position (line ∷ []) is none = by (parts_of line) is none
  where
    by : (found : Option PartsValue) → is_some found ≡ true → occurrence_if position found [] [] ≡ [] → ⊥
    by None is none = false≢true is
    by (Some parts) is none = cc
some-found position (line ∷ next ∷ lines) is none = by (parts_of line) none (some-found (suc position) (next ∷ lines) is)
  where
    by : (found : Option PartsValue)
        → occurrence_if position found (source_of next) (occurrences_from (suc position) (next ∷ lines)) ≡ []
        → (occurrences_from (suc position) (next ∷ lines) ≡ [] → ⊥) → ⊥
    by None none later = later none
    by (Some parts) none later = cc

with_source_if-cons : (is_last : Bool) (source : List ℕ) (one : OccurrenceValue) (others : List OccurrenceValue)
    → (is_last ≡ true → others ≡ [] → ⊥)
    → with_source_if is_last source (one ∷ others) ≡ one ∷ with_source_if is_last source others
with_source_if-cons false source one others some = refl
with_source_if-cons true source one [] some = absurd (some refl refl)
with_source_if-cons true source one (next ∷ others) some = refl

pub occurrences-push : (position : ℕ) (lines : List (List ℕ)) (line : List ℕ)
    → occurrences_from position (lines ++ line ∷ [])
    ≡ with_source_if (ends_with_diagnostic lines) (source_of line) (occurrences_from position lines)
    ++ occurrence_if (position + length lines) (parts_of line) [] []
occurrences-push position [] line =
    let here : position ≡ position + 0 = omega arith in
    ap (λ (n : ℕ). occurrence_if n (parts_of line) [] []) here
occurrences-push position (first ∷ []) line =
    let here : suc position ≡ position + 1 = omega arith in
    by (parts_of first) ∙ ap (λ (n : ℕ). with_source_if (is_some (parts_of first)) (source_of line)
    (occurrence_if position (parts_of first) [] []) ++ occurrence_if n (parts_of line) [] []) here
  where
    by : (found : Option PartsValue)
        → occurrence_if position found (source_of line) (occurrence_if (suc position) (parts_of line) [] [])
        ≡ with_source_if (is_some found) (source_of line) (occurrence_if position found [] [])
        ++ occurrence_if (suc position) (parts_of line) [] []
    by None = refl
    by (Some parts) = refl
occurrences-push position (first ∷ second ∷ lines) line =
    let more : suc position + length (second ∷ lines) ≡ position + length (first ∷ second ∷ lines) = omega arith in
    by (parts_of first) (occurrences-push (suc position) (second ∷ lines) line
    ∙ ap (λ (n : ℕ). with_source_if (ends_with_diagnostic (second ∷ lines)) (source_of line) (occurrences_from (suc position)
    (second ∷ lines)) ++ occurrence_if n (parts_of line) [] []) more)
  where
    by : (found : Option PartsValue)
        → occurrences_from (suc position) ((second ∷ lines) ++ line ∷ [])
        ≡ with_source_if (ends_with_diagnostic (second ∷ lines)) (source_of line) (occurrences_from (suc position) (second ∷ lines))
        ++ occurrence_if (position + length (first ∷ second ∷ lines)) (parts_of line) [] []
        → occurrence_if position found (source_of second) (occurrences_from (suc position) ((second ∷ lines) ++ line ∷ []))
        ≡ with_source_if (ends_with_diagnostic (second ∷ lines)) (source_of line)
        (occurrence_if position found (source_of second) (occurrences_from (suc position) (second ∷ lines)))
        ++ occurrence_if (position + length (first ∷ second ∷ lines)) (parts_of line) [] []
    by None rest = rest
    by (Some parts) rest =
        let one : OccurrenceValue =
        record { line = position; severity = parts.severity; key = key_of parts; source = source_of second } in
        ap (λ (l : List OccurrenceValue). one ∷ l) rest
        ∙ ap (λ (l : List OccurrenceValue). l ++ occurrence_if (position + length (first ∷ second ∷ lines)) (parts_of line) [] [])
        (sym (with_source_if-cons (ends_with_diagnostic (second ∷ lines)) (source_of line) one
        (occurrences_from (suc position) (second ∷ lines)) (λ is none. some-found (suc position) (second ∷ lines) is none)))

pub ends-push : (lines : List (List ℕ)) (line : List ℕ) → ends_with_diagnostic (lines ++ line ∷ []) ≡ is_some (parts_of line)
ends-push [] line = refl
ends-push (first ∷ []) line = refl
ends-push (first ∷ second ∷ lines) line = ends-push (second ∷ lines) line
