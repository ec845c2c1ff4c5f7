-- The diagnostics of a log in parts.
use Rattle.std.proofs.Common.{◌≡◌, ℕ, Bool, true, false, List, [], ◌∷◌, ◌++◌, Option, None, Some, IfNone, IfSome, Bor, option_and_then, option_map, refl, sym, ap, ◌∙◌, append_assoc}
use Rattle.std.specs.Option.{option_copied}
use Rattle.std.specs.Prelude.{codes, decimal}
use Rattle.std.proofs.lemmas.List.{append-nil}
use Rattle.json.specs.Json.{array, number, string}
use Rattle.json.specs.Print.{escape_byte, print, print_from}
use Rattle.json.specs.Tree.{items_tokens, json_tokens}
use Rattle.redo_diagnostics.specs.declared.severity.Severity.{Severity}
use Rattle.redo_diagnostics.specs.declared.severity.Severity.TheVariants.{Warning, Error, FatalError}
use Rattle.redo_diagnostics.specs.Diagnostic.{PlaceValue}
use Rattle.redo_json.specs.Diagnostics.{FlaggedDiagnostic, LogDiagnostic, diagnostic_fields, diagnostic_objects, diagnostics_field, diagnostics_of, flagged, severity_name}
use Rattle.redo_json.specs.Fields.{Field, boolean_value, bytes_fields, field, number_value, object_with, optional_bytes_fields}
use Rattle.redo_json.specs.Private.Parts.{comma_field, comma_fields, comma_if, diagnostic_text, diagnostics_text, field_text, place_text, string_start}
use Rattle.redo_json.proofs.ObjectLemmas.{then, then_one}
use Rattle.redo_json.proofs.PrintLemmas.{print_number, print_object, value_then}

abbrev file_of : Option PlaceValue → Option (List ℕ)
file_of place = option_map (λ (place : PlaceValue). place.file) place

abbrev row_of : Option PlaceValue → Option ℕ
row_of place = option_map (λ (place : PlaceValue). place.row) place

abbrev column_of : Option PlaceValue → Option ℕ
column_of place = option_and_then (λ (place : PlaceValue). place.column) place

-- A borrowed value that may not be known.
pub known_is : (value : Option (List ℕ)) (result : Option (Bor (List ℕ))) → IfSome result (λ bytes. value ≡ Some bytes.now)
    → IfNone result (value ≡ None) → option_copied result ≡ value
known_is value None some none = sym none
known_is value (Some bytes) some none = sym some

-- ---- a diagnostic

abbrev severity_field : Severity → List ℕ
severity_field severity = comma_field (field (codes "severity") (string (severity_name severity)))

pub warning_text : (severity : Severity) → severity ≡ Warning → codes ",\"severity\":\"warning\"" ≡ severity_field severity
unfolding escape_byte print_from
warning_text severity is = ap severity_field (sym is)

pub error_text : (severity : Severity) → severity ≡ Error → codes ",\"severity\":\"error\"" ≡ severity_field severity
unfolding escape_byte print_from
error_text severity is = ap severity_field (sym is)

pub fatal_text : (severity : Severity) → severity ≡ FatalError → codes ",\"severity\":\"fatal error\"" ≡ severity_field severity
unfolding escape_byte print_from
fatal_text severity is = ap severity_field (sym is)

-- A borrowed place that may not be known.
pub known_place : (value : Option PlaceValue) (result : Option (Bor PlaceValue)) → IfSome result (λ place. value ≡ Some place.now)
    → IfNone result (value ≡ None) → option_copied result ≡ value
known_place value None some none = sym none
known_place value (Some place) some none = sym some

pub flag_start : codes ",\"flag\":\"" ≡ string_start (codes "flag")
unfolding escape_byte
flag_start = refl

pub file_start : codes ",\"file\":\"" ≡ string_start (codes "file")
unfolding escape_byte
file_start = refl

pub message_start : codes ",\"message\":\"" ≡ string_start (codes "message")
unfolding escape_byte
message_start = refl

pub key_start : codes ",\"key\":\"" ≡ string_start (codes "key")
unfolding escape_byte
key_start = refl

-- ---- what isn't known

pub no_flag : codes ",\"flag\":null" ≡ comma_fields (optional_bytes_fields (codes "flag") None)
unfolding escape_byte print_from
no_flag = refl

pub no_place : codes ",\"file\":null,\"row\":null,\"column\":null" ≡ place_text None
unfolding escape_byte print_from
no_place = refl

pub no_column : codes "null" ≡ print (json_tokens (number_value None))
unfolding print_from
no_column = refl

-- ---- a place

pub column_is : (column : ℕ) → decimal column ++ [] ≡ print (json_tokens (number_value (Some column)))
column_is column = append-nil (decimal column) ∙ sym (print_number (decimal column))

-- The row, and the start of the column.
abbrev pub row_text : ℕ → List ℕ
row_text row = codes ",\"row\":" ++ (decimal row ++ (codes ",\"column\":" ++ []))

pub place_parts : (place : PlaceValue)
    → comma_fields (bytes_fields (codes "file") place.file) ++ (row_text place.row ++ print (json_tokens (number_value place.column)))
    ≡ place_text (Some place)
unfolding escape_byte
place_parts place =
    let column = print (json_tokens (number_value place.column)) in
    ap (λ (l : List ℕ). comma_fields (bytes_fields (codes "file") place.file) ++ l)
    (ap (λ (l : List ℕ). codes ",\"row\":" ++ l) (append_assoc (decimal place.row) (codes ",\"column\":") column)
    ∙ ap (λ (l : List ℕ). codes ",\"row\":" ++ (l ++ (codes ",\"column\":" ++ column))) (sym (print_number (decimal place.row))))

abbrev pub first_text : Bool → ℕ → List ℕ
first_text is_first position = comma_if is_first ++ (codes "{\"line\":" ++ (decimal position ++ []))

pub first_is : (is_first : Bool) (position : ℕ) (start : List ℕ) → start ≡ comma_if is_first ++ codes "{\"line\":"
    → start ++ (decimal position ++ []) ≡ first_text is_first position
first_is is_first position start is =
    ap (λ (l : List ℕ). l ++ (decimal position ++ [])) is
    ∙ append_assoc (comma_if is_first) (codes "{\"line\":") (decimal position ++ [])

-- The member that says whether a diagnostic is new, and the end of the object.
abbrev pub end_text : Option Bool → List ℕ
end_text new = comma_field (field (codes "new") (boolean_value new)) ++ 125 ∷ []

pub not_known : codes ",\"new\":null}" ≡ end_text None
unfolding escape_byte print_from
not_known = refl

pub is_known : codes ",\"new\":false}" ≡ end_text (Some false)
unfolding escape_byte print_from
is_known = refl

pub is_new : codes ",\"new\":true}" ≡ end_text (Some true)
unfolding escape_byte print_from
is_new = refl

-- The last two members, and the end of the object.
abbrev pub last_text : ℕ → Option Bool → List ℕ
last_text nth new = comma_field (field (codes "nth") (number (decimal nth))) ++ end_text new

pub last_is : (nth : ℕ) (new : Option Bool) (end : List ℕ) → end ≡ end_text new
    → codes ",\"nth\":" ++ (decimal nth ++ (end ++ [])) ≡ last_text nth new
unfolding escape_byte
last_is nth new end is =
    ap (λ (l : List ℕ). codes ",\"nth\":" ++ (decimal nth ++ l)) (append-nil end ∙ is)
    ∙ ap (λ (l : List ℕ). codes ",\"nth\":" ++ (l ++ end_text new)) (sym (print_number (decimal nth)))

module _ (one : LogDiagnostic) (new : Option Bool) where
  abbrev line_field : Field
  line_field = field (codes "line") (number (decimal one.line))

  abbrev nth_on : List Field
  nth_on = field (codes "nth") (number (decimal one.nth)) ∷ field (codes "new") (boolean_value new) ∷ []

  abbrev key_on : List Field
  key_on = bytes_fields (codes "key") one.value.key ++ nth_on

  abbrev flag_on : List Field
  flag_on = optional_bytes_fields (codes "flag") one.value.flag ++ key_on

  abbrev message_on : List Field
  message_on = bytes_fields (codes "message") one.value.message ++ flag_on

  abbrev column_on : List Field
  column_on = field (codes "column") (number_value (column_of one.value.place)) ∷ message_on

  abbrev row_on : List Field
  row_on = field (codes "row") (number_value (row_of one.value.place)) ∷ column_on

  abbrev file_on : List Field
  file_on = optional_bytes_fields (codes "file") (file_of one.value.place) ++ row_on

  abbrev severity_on : List Field
  severity_on = field (codes "severity") (string (severity_name one.value.severity)) ∷ file_on

  abbrev others_text : List ℕ
  others_text =
      comma_field (field (codes "severity") (string (severity_name one.value.severity)))
      ++ (place_text one.value.place
      ++ (comma_fields (bytes_fields (codes "message") one.value.message)
      ++ (comma_fields (optional_bytes_fields (codes "flag") one.value.flag)
      ++ (comma_fields (bytes_fields (codes "key") one.value.key)
      ++ last_text one.nth new))))

  place_on : (left : List ℕ) → comma_fields message_on ++ 125 ∷ [] ≡ left
      → comma_fields file_on ++ 125 ∷ [] ≡ place_text one.value.place ++ left
  place_on left is =
      let file = comma_fields (optional_bytes_fields (codes "file") (file_of one.value.place)) in
      let row = comma_field (field (codes "row") (number_value (row_of one.value.place))) in
      let column = comma_field (field (codes "column") (number_value (column_of one.value.place))) in
      then (optional_bytes_fields (codes "file") (file_of one.value.place)) row_on (125 ∷ []) _
      (then_one (field (codes "row") (number_value (row_of one.value.place))) column_on (125 ∷ []) _
      (then_one (field (codes "column") (number_value (column_of one.value.place))) message_on (125 ∷ []) _ is))
      ∙ ap (λ (l : List ℕ). file ++ l) (sym (append_assoc row column left))
      ∙ sym (append_assoc file (row ++ column) left)

  others_are : comma_fields severity_on ++ 125 ∷ [] ≡ others_text
  others_are =
      then_one (field (codes "severity") (string (severity_name one.value.severity))) file_on (125 ∷ []) _
      (place_on _
      (then (bytes_fields (codes "message") one.value.message) flag_on (125 ∷ []) _
      (then (optional_bytes_fields (codes "flag") one.value.flag) key_on (125 ∷ []) _
      (then (bytes_fields (codes "key") one.value.key) nth_on (125 ∷ []) _
      (then_one (field (codes "nth") (number (decimal one.nth))) (field (codes "new") (boolean_value new) ∷ []) (125 ∷ []) _
      (then_one (field (codes "new") (boolean_value new)) [] (125 ∷ []) _ refl))))))

  line_is : codes "{\"line\":" ++ (decimal one.line ++ []) ≡ 123 ∷ field_text line_field
  unfolding escape_byte
  line_is =
      ap (λ (l : List ℕ). codes "{\"line\":" ++ l) (append-nil (decimal one.line) ∙ sym (print_number (decimal one.line)))

  pub diagnostic_parts : (is_first : Bool) → first_text is_first one.line ++ others_text ≡ diagnostic_text is_first (one, new)
  diagnostic_parts is_first =
      append_assoc (comma_if is_first) (codes "{\"line\":" ++ (decimal one.line ++ [])) others_text
      ∙ ap (λ (l : List ℕ). comma_if is_first ++ l)
      (ap (λ (l : List ℕ). l ++ others_text) line_is
      ∙ ap (λ (l : List ℕ). 123 ∷ (field_text line_field ++ l)) (sym others_are)
      ∙ sym (print_object line_field severity_on))

-- ---- all diagnostics

other_diagnostics : (found : List FlaggedDiagnostic)
    → print_from true (items_tokens (diagnostic_objects found)) ≡ diagnostics_text false found ++ 93 ∷ []
unfolding print_from
other_diagnostics [] = refl
other_diagnostics (one ∷ others) =
    ap (λ (l : List ℕ). 44 ∷ l) (value_then (object_with (diagnostic_fields one.0 one.1)) (items_tokens (diagnostic_objects others)))
    ∙ ap (λ (l : List ℕ). 44 ∷ (print (json_tokens (object_with (diagnostic_fields one.0 one.1))) ++ l)) (other_diagnostics others)
    ∙ ap (λ (l : List ℕ). 44 ∷ l)
    (sym (append_assoc (print (json_tokens (object_with (diagnostic_fields one.0 one.1)))) (diagnostics_text false others) (93 ∷ [])))

print_diagnostics : (found : List FlaggedDiagnostic)
    → print (json_tokens (array (diagnostic_objects found))) ≡ 91 ∷ (diagnostics_text true found ++ 93 ∷ [])
unfolding print_from
print_diagnostics [] = refl
print_diagnostics (one ∷ others) =
    ap (λ (l : List ℕ). 91 ∷ l)
    (value_then (object_with (diagnostic_fields one.0 one.1)) (items_tokens (diagnostic_objects others))
    ∙ ap (λ (l : List ℕ). print (json_tokens (object_with (diagnostic_fields one.0 one.1))) ++ l) (other_diagnostics others)
    ∙ sym (append_assoc (print (json_tokens (object_with (diagnostic_fields one.0 one.1)))) (diagnostics_text false others) (93 ∷ [])))

pub list_of_diagnostics : (flags : Option (List Bool)) (lines : List (List ℕ))
    → codes ",\"diagnostics\":[" ++ (diagnostics_text true (flagged flags (diagnostics_of lines)) ++ 93 ∷ [])
    ≡ comma_field (diagnostics_field flags lines)
unfolding escape_byte
list_of_diagnostics flags lines =
    ap (λ (l : List ℕ). codes ",\"diagnostics\":" ++ l) (sym (print_diagnostics (flagged flags (diagnostics_of lines))))
