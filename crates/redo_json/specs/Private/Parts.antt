-- The postconditions of the writers of objects.
use Rattle.std.specs.Prelude.{◌≡◌, ℕ, ◌+◌, ◌<◌, ◌≤◌, Bool, false, List, [], ◌∷◌, ◌++◌, Option, None, Some, option_and_then, option_map, length, drop, get_or, codes, decimal, if◌then◌else◌}
use Rattle.std.specs.Fmt.{signed_decimal}
use Rattle.std.specs.List.{flat_map}
use Rattle.json.specs.Json.{number, string}
use Rattle.json.specs.Print.{escape, print, quoted}
use Rattle.json.specs.Tree.{json_tokens}
use Rattle.redo_json.specs.declared.part.Part.{Part}
use Rattle.redo_json.specs.declared.part.Part.TheVariants.{Base64, Escaped, Json, Number, Position, Signed, Text}
use Rattle.redo_diagnostics.specs.declared.severity.Severity.{Severity}
use Rattle.redo_diagnostics.specs.Diagnostic.{DiagnosticValue, PlaceValue}
use Rattle.redo_json.specs.Diagnostics.{FlaggedDiagnostic, diagnostic_fields, severity_name}
use Rattle.redo_json.specs.Fields.{Field, boolean_value, bytes_fields, exact_fields, exact_items, exact_name, field, list_fields, number_value, object_with, optional_bytes_fields}
use Rattle.redo_json.specs.Object.{LogValues, number_fields}
use Rattle.redo_json.specs.Text.{base64_of, exact_of, text_of}

abbrev pub part_text : Part → List ℕ
part_text (Json json) = json.now
part_text (Escaped text) = escape text.now
part_text (Text bytes) = quoted (text_of bytes.now)
part_text (Base64 bytes) = quoted (base64_of bytes.now)
part_text (Number value) = decimal value
part_text (Signed value) = signed_decimal value
part_text (Position value) = escape (decimal value)

-- A member of an object, as it is printed.
abbrev pub field_text : Field → List ℕ
field_text one = quoted one.name ++ 58 ∷ print (json_tokens one.value)

-- A member after another one.
abbrev pub comma_field : Field → List ℕ
comma_field one = 44 ∷ field_text one

abbrev pub comma_fields : List Field → List ℕ
comma_fields fields = flat_map comma_field fields

-- What a member with a string has before the string's first byte.
abbrev pub string_start : List ℕ → List ℕ
string_start name = 44 ∷ 34 ∷ (escape name ++ (34 ∷ 58 ∷ 34 ∷ []))

-- An item of a list, with the comma before it.
abbrev pub item_text : Bool → List ℕ → List ℕ
item_text is_first bytes = (if is_first then [] else 44 ∷ []) ++ quoted (text_of bytes)

abbrev pub items_text : Bool → List (List ℕ) → List ℕ
items_text is_first [] = []
items_text is_first (bytes ∷ others) = item_text is_first bytes ++ items_text false others

-- A member with the exact bytes of an item.
abbrev pub exact_item : ℕ → List ℕ → List ℕ
exact_item position bytes = field_text (field (decimal position) (string (base64_of bytes)))

-- From `from` on, the first item whose text doesn't have the exact bytes is at `at`.
pub record IsNextExact (list : List (List ℕ)) (from at : ℕ) : Type 0 where
  pub within : at < length list
  pub not_before : from ≤ at
  pub fields : exact_items from (drop from list)
      ≡ field (decimal at) (string (base64_of (get_or list at []))) ∷ exact_items (at + 1) (drop (at + 1) list)

-- A comma, unless it would be before the first item.
abbrev pub comma_if : Bool → List ℕ
comma_if is_first = if is_first then [] else 44 ∷ []

-- The members with the place of a diagnostic, as they are printed.
abbrev pub place_text : Option PlaceValue → List ℕ
place_text place =
    comma_fields (optional_bytes_fields (codes "file") (option_map (λ (place : PlaceValue). place.file) place))
    ++ (comma_field (field (codes "row") (number_value (option_map (λ (place : PlaceValue). place.row) place)))
    ++ comma_field (field (codes "column") (number_value (option_and_then (λ (place : PlaceValue). place.column) place))))

-- The object of a diagnostic, with the comma before it.
abbrev pub diagnostic_text : Bool → FlaggedDiagnostic → List ℕ
diagnostic_text is_first one = comma_if is_first ++ print (json_tokens (object_with (diagnostic_fields one.0 one.1)))

-- The member with a severity.
abbrev pub severity_text : Severity → List ℕ
severity_text severity = comma_field (field (codes "severity") (string (severity_name severity)))

-- The object of a diagnostic up to the first byte of its message, with the comma before it.
abbrev pub diagnostic_front : Bool → ℕ → DiagnosticValue → List ℕ
diagnostic_front is_first line value =
    comma_if is_first
    ++ (codes "{\"line\":"
    ++ (decimal line ++ (severity_text value.severity ++ (place_text value.place ++ string_start (codes "message")))))

-- The object of a diagnostic from the first byte of its message on, if all its strings are written as they are.
abbrev pub diagnostic_back : DiagnosticValue → ℕ → Option Bool → List ℕ
diagnostic_back value nth new =
    value.message
    ++ (34
    ∷ (comma_fields (optional_bytes_fields (codes "flag") value.flag)
    ++ (comma_fields (bytes_fields (codes "key") value.key)
    ++ (comma_field (field (codes "nth") (number (decimal nth))) ++ (comma_field (field (codes "new") (boolean_value new)) ++ 125 ∷ [])))))

-- What is between the message and the key of a diagnostic with this flag, if the flag is written as it is.
abbrev pub flag_text : Option (List ℕ) → List ℕ
flag_text None = codes "\",\"flag\":null,\"key\":\""
flag_text (Some flag) = codes "\",\"flag\":\"" ++ (flag ++ codes "\",\"key\":\"")

-- The object of a diagnostic from the first byte of its message to the last one of its key, if its strings are written as they are.
abbrev pub strings_text : DiagnosticValue → List ℕ
strings_text value = value.message ++ (flag_text value.flag ++ value.key)

-- What follows the key of a diagnostic, if the key is written as it is.
abbrev pub number_text : ℕ → Option Bool → List ℕ
number_text nth new = codes "\",\"nth\":" ++ (decimal nth ++ (comma_field (field (codes "new") (boolean_value new)) ++ 125 ∷ []))

abbrev pub diagnostics_text : Bool → List FlaggedDiagnostic → List ℕ
diagnostics_text is_first [] = []
diagnostics_text is_first (one ∷ others) = diagnostic_text is_first one ++ diagnostics_text false others

-- ---- the object of a log

module _ (values : LogValues) where
  -- The members of an object up to the text lines: the first one, and then those after it.
  abbrev pub first_part : List ℕ
  first_part = codes "{\"target\":" ++ (quoted (text_of values.target) ++ [])

  abbrev pub exact_target : List ℕ
  exact_target = comma_fields (exact_fields (exact_name (codes "target")) (exact_of values.target))

  abbrev pub parent_part : List ℕ
  parent_part = comma_fields (optional_bytes_fields (codes "parent") values.parent)

  abbrev pub numbers_part : List ℕ
  numbers_part = comma_fields (number_fields values)

  abbrev pub directory_part : List ℕ
  directory_part = comma_fields (optional_bytes_fields (codes "directory") values.directory)

  abbrev pub commands_part : List ℕ
  commands_part = comma_fields (list_fields (codes "commands") values.commands)

  abbrev pub needs_part : List ℕ
  needs_part = comma_fields (list_fields (codes "needs") values.needs)

  abbrev pub lines_part : List ℕ
  lines_part = comma_fields (list_fields (codes "lines") values.lines)

  -- These parts of an object from one on.
  abbrev pub from_needs : List ℕ
  from_needs = needs_part ++ lines_part

  abbrev pub from_commands : List ℕ
  from_commands = commands_part ++ from_needs

  abbrev pub from_directory : List ℕ
  from_directory = directory_part ++ from_commands

  abbrev pub from_numbers : List ℕ
  from_numbers = numbers_part ++ from_directory

  abbrev pub from_parent : List ℕ
  from_parent = parent_part ++ from_numbers

  abbrev pub from_exact : List ℕ
  from_exact = exact_target ++ from_parent

  abbrev pub front_text : List ℕ
  front_text = first_part ++ from_exact
