-- Rows of logs and the diagnostics in them. A program in another language gave the expected values.
use Rattle.std.proofs.Common.{◌≡◌, ℕ, Bool, true, false, List, [], ◌∷◌, refl}
use Rattle.std.specs.Prelude.{codes}
use Rattle.std.specs.List.{AllByRecursion}
use Rattle.redo_line.specs.Decimal.{number}
use Rattle.redo_line.specs.Parts.{after_prefix, split_once}
use Rattle.redo_html.specs.Symbols.{is_sequence, sequence_len}
use Rattle.redo_diagnostics.specs.declared.severity.Severity.{Severity}
use Rattle.redo_diagnostics.specs.declared.severity.Severity.TheVariants.{Warning, Error}
use Rattle.redo_diagnostics.specs.Diagnostic.{before_bracket, diagnostic_of, first_place, masked_after, place_of, split_flag}
use Rattle.redo_diagnostics.specs.Plain.{plain_after}
use Rattle.redo_compare.specs.Occurrences.{FoundValue, IsFoundIn, OccurrenceValue, ends_with_diagnostic, occurrences_of}
use Rattle.redo_compare.specs.Source.{source_of}

record Row : Type 0 where
  lines : List (List ℕ)
  occurrences : List OccurrenceValue
  is_last : Bool

abbrev found : ℕ → Severity → List ℕ → List ℕ → OccurrenceValue
found line severity key source = record { line = line; severity = severity; key = key; source = source }

abbrev IsFound : Row → Type 0
IsFound row = (occurrences_of row.lines ≡ row.occurrences) × (ends_with_diagnostic row.lines ≡ row.is_last)

abbrev logs : List Row
logs =
    record { lines = []; occurrences = []; is_last = false } ∷
    record {
      lines = codes "f" ∷ codes "a:1: warning: m" ∷ codes "  1 | x;" ∷ codes "    |  ^" ∷ [];
      occurrences = found 1 Warning (codes "a: warning: m") (codes "x;") ∷ [];
      is_last = false;
    } ∷
    record {
      lines = codes "a:1: error: m" ∷ codes "b:2: error: m" ∷ codes "note" ∷ codes " 2 | y" ∷ codes "error: z" ∷ [];
      occurrences = found 0 Error (codes "a: error: m") [] ∷ found 1 Error (codes "b: error: m") [] ∷ found 4 Error (codes ": error: z") [] ∷ [];
      is_last = true;
    } ∷
    record {
      lines = codes "error: z" ∷ codes "note" ∷ [];
      occurrences = found 0 Error (codes ": error: z") [] ∷ [];
      is_last = false;
    } ∷
    []

these_logs : AllByRecursion IsFound logs
unfolding after_prefix split_once number is_sequence sequence_len plain_after first_place place_of before_bracket
    split_flag masked_after diagnostic_of source_of
these_logs = ((refl, refl), ((refl, refl), ((refl, refl), ((refl, refl), tt))))

abbrev not_none : FoundValue
not_none = record { occurrences = found 0 Error (codes ": error: z") [] ∷ []; is_last = false }

not_found : IsFoundIn [] not_none → ⊥
not_found is = let some = is.occurrences in cc

abbrev not_the_last : FoundValue
not_the_last = record { occurrences = []; is_last = true }

not_last : IsFoundIn [] not_the_last → ⊥
not_last is = let last = is.is_last in cc
