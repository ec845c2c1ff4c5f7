-- The diagnostics of a log, with the source lines below them.
use Rattle.std.specs.Prelude.{◌≡◌, ℕ, suc, Bool, false, List, [], ◌∷◌, Option, None, Some, is_some}
use Rattle.redo_diagnostics.specs.declared.severity.Severity.{Severity}
use Rattle.redo_diagnostics.specs.Diagnostic.{PartsValue, key_of, parts_of}
use Rattle.redo_compare.specs.Source.{source_of}

-- A diagnostic of a log: the position of its line among the log's lines, its severity, its key, and the source line that the next line
-- shows.
pub record OccurrenceValue : Type 0 where
  pub line : ℕ
  pub severity : Severity
  pub key : List ℕ
  pub source : List ℕ

-- The source line that the first of these lines shows.
abbrev pub first_source : List (List ℕ) → List ℕ
first_source [] = []
first_source (line ∷ lines) = source_of line

abbrev pub occurrence_if : ℕ → Option PartsValue → List ℕ → List OccurrenceValue → List OccurrenceValue
occurrence_if position None source others = others
occurrence_if position (Some parts) source others =
    record { line = position; severity = parts.severity; key = key_of parts; source = source } ∷ others

-- The diagnostics of these lines. The first line has the position `position`.
abbrev pub occurrences_from : ℕ → List (List ℕ) → List OccurrenceValue
occurrences_from position [] = []
occurrences_from position (line ∷ lines) =
    occurrence_if position (parts_of line) (first_source lines) (occurrences_from (suc position) lines)

-- The diagnostics of a log with these lines.
abbrev pub occurrences_of : List (List ℕ) → List OccurrenceValue
occurrences_of lines = occurrences_from 0 lines

-- Whether the last of these lines is a diagnostic.
abbrev pub ends_with_diagnostic : List (List ℕ) → Bool
ends_with_diagnostic [] = false
ends_with_diagnostic (line ∷ []) = is_some (parts_of line)
ends_with_diagnostic (line ∷ next ∷ lines) = ends_with_diagnostic (next ∷ lines)

-- The diagnostics that were found in the lines so far, and whether the last line is one.
pub record FoundValue : Type 0 where
  pub occurrences : List OccurrenceValue
  pub is_last : Bool

-- Whether this was found in these lines.
pub record IsFoundIn (lines : List (List ℕ)) (found : FoundValue) : Type 0 where
  pub occurrences : found.occurrences ≡ occurrences_of lines
  pub is_last : found.is_last ≡ ends_with_diagnostic lines
