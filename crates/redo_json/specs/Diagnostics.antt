-- The diagnostics of a log, and what JSON says of them.
use Rattle.std.specs.Prelude.{ℕ, suc, Bool, List, [], ◌∷◌, ◌++◌, Option, None, Some, drop, option_and_then, option_map, slice_get, codes}
use Rattle.std.specs.Fmt.{decimal}
use Rattle.json.specs.Json.{Items, array, item, no_items, number, string}
use Rattle.redo_diagnostics.specs.declared.severity.Severity.{Severity}
use Rattle.redo_diagnostics.specs.declared.severity.Severity.TheVariants.{Warning, Error, FatalError}
use Rattle.redo_diagnostics.specs.Counts.{times_of}
use Rattle.redo_diagnostics.specs.Diagnostic.{DiagnosticValue, PlaceValue, diagnostic_of}
use Rattle.redo_json.specs.Fields.{Field, boolean_value, bytes_fields, field, number_value, object_with, optional_bytes_fields}

-- A diagnostic of a log: the position of its line among the log's lines, what this line says, and how many earlier diagnostics of the log
-- have the same key.
pub record LogDiagnostic : Type 0 where
  pub line : ℕ
  pub value : DiagnosticValue
  pub nth : ℕ

abbrev pub placed_if : ℕ → Option DiagnosticValue → List (ℕ × DiagnosticValue) → List (ℕ × DiagnosticValue)
placed_if position None after = after
placed_if position (Some value) after = (position, value) ∷ after

-- The diagnostics of these lines, each with the position of its line. The first line has the position `position`.
abbrev pub placed_from : ℕ → List (List ℕ) → List (ℕ × DiagnosticValue)
placed_from position [] = []
placed_from position (line ∷ lines) = placed_if position (diagnostic_of line) (placed_from (suc position) lines)

-- The same with their numbers. `keys` are the keys of the diagnostics before these.
abbrev pub numbered_from : List (List ℕ) → List (ℕ × DiagnosticValue) → List LogDiagnostic
numbered_from keys [] = []
numbered_from keys (one ∷ others) =
    record { line = one.0; value = one.1; nth = times_of one.1.key keys } ∷ numbered_from (keys ++ one.1.key ∷ []) others

-- The diagnostics of a log with these lines.
abbrev pub diagnostics_of : List (List ℕ) → List LogDiagnostic
diagnostics_of lines = numbered_from [] (placed_from 0 lines)

-- The flag of the first diagnostic, and the flags of the others. Without a baseline there are none.
abbrev pub first_flag : Option (List Bool) → Option Bool
first_flag flags = option_and_then (λ (all : List Bool). slice_get all 0) flags

abbrev pub other_flags : Option (List Bool) → Option (List Bool)
other_flags flags = option_map (λ (all : List Bool). drop 1 all) flags

-- A diagnostic of a log, and whether it is new since the baseline, if there is one.
abbrev pub FlaggedDiagnostic : Type 0
FlaggedDiagnostic = LogDiagnostic × Option Bool

-- These diagnostics with their flags. If there is a baseline, the flags say of each diagnostic, in order, whether it is new.
abbrev pub flagged : Option (List Bool) → List LogDiagnostic → List FlaggedDiagnostic
flagged flags [] = []
flagged flags (one ∷ others) = (one, first_flag flags) ∷ flagged (other_flags flags) others

abbrev pub severity_name : Severity → List ℕ
severity_name Warning = codes "warning"
severity_name Error = codes "error"
severity_name FatalError = codes "fatal error"

-- The members of the object of a diagnostic, in this order.
abbrev pub diagnostic_fields : LogDiagnostic → Option Bool → List Field
diagnostic_fields one new =
    field (codes "line") (number (decimal one.line))
    ∷ field (codes "severity") (string (severity_name one.value.severity))
    ∷ (optional_bytes_fields (codes "file") (option_map (λ (place : PlaceValue). place.file) one.value.place)
    ++ field (codes "row") (number_value (option_map (λ (place : PlaceValue). place.row) one.value.place))
    ∷ field (codes "column") (number_value (option_and_then (λ (place : PlaceValue). place.column) one.value.place))
    ∷ (bytes_fields (codes "message") one.value.message
    ++ (optional_bytes_fields (codes "flag") one.value.flag
    ++ (bytes_fields (codes "key") one.value.key
    ++ field (codes "nth") (number (decimal one.nth))
    ∷ field (codes "new") (boolean_value new)
    ∷ []))))

abbrev pub diagnostic_objects : List FlaggedDiagnostic → Items
diagnostic_objects [] = no_items
diagnostic_objects (one ∷ others) = item (object_with (diagnostic_fields one.0 one.1)) (diagnostic_objects others)

-- The diagnostics of a log with these lines, and with these flags if there is a baseline.
abbrev pub diagnostics_field : Option (List Bool) → List (List ℕ) → Field
diagnostics_field flags lines = field (codes "diagnostics") (array (diagnostic_objects (flagged flags (diagnostics_of lines))))
