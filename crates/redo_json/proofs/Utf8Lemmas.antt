-- Objects are valid UTF-8.
use Rattle.std.proofs.Common.{◌≡◌, ℕ, ℤ, pos, negsuc, zero, suc, ◌+◌, ◌<◌, ◌%◌, ◌/◌, Bool, true, false, List, [], ◌∷◌, ◌++◌, Option, None, Some, IsUtf8, inl, inr, option_and_then, option_map, refl, ap, ◌∙◌, arith}
use Rattle.std.specs.Prelude.{◌==◌, codes, nat_lt, decimal, if◌then◌else◌}
use Rattle.std.specs.Fmt.{digit_glyph, digits, digits_onto, signed_decimal}
use Rattle.std.specs.Str.{is_utf8}
use Rattle.std.proofs.lemmas.Bool.{and_from, cases_Bool, lt-ltb}
use Rattle.std.proofs.lemmas.Str.{IsUtf8-append, IsUtf8-from_ascii, IsUtf8-nil}
use Rattle.base64.specs.Engines.{standard}
use Rattle.base64.proofs.EngineFacts.{IsAscii-encode_of}
use Rattle.json.specs.Token.{Token}
use Rattle.json.specs.Json.{null, number}
use Rattle.json.specs.Print.{ends, print, print_from, token_text}
use Rattle.json.specs.Tree.{items_tokens, json_tokens, members_tokens}
use Rattle.json.proofs.Printed.Utf8.{IsUtf8-are_ascii, IsUtf8-key, IsUtf8-quoted, IsUtf8-separator, are_ascii}
use Rattle.redo_diagnostics.specs.declared.severity.Severity.{Severity}
use Rattle.redo_diagnostics.specs.declared.severity.Severity.TheVariants.{Warning, Error, FatalError}
use Rattle.redo_diagnostics.specs.Diagnostic.{PlaceValue}
use Rattle.redo_compare.specs.Baseline.{ChangesValue}
use Rattle.redo_json.specs.Diagnostics.{FlaggedDiagnostic, LogDiagnostic, diagnostic_fields, diagnostic_objects, diagnostics_field, diagnostics_of, flagged, severity_name}
use Rattle.redo_json.specs.Fields.{Field, boolean_value, bytes_fields, field, exact_fields, exact_items, exact_list, exact_name, list_fields, members_of, number_value, object_with, optional_bytes_fields, signed_value, strings}
use Rattle.redo_json.specs.Object.{LogValues, baseline_field, baseline_value, change_fields, new_flags, number_fields, object_fields, object_of}
use Rattle.redo_json.specs.Text.{base64_of, exact_of, text_of}
use Rattle.redo_json.proofs.TextLemmas.{text_utf8}

-- ---- tokens

abbrev HaveText : List Token → Type 0
HaveText [] = Unit {0}
HaveText (token ∷ tokens) = IsUtf8 (token_text token) × HaveText tokens

print_utf8 : (after_value : Bool) (tokens : List Token) → HaveText tokens → IsUtf8 (print_from after_value tokens)
unfolding print_from
print_utf8 after_value [] have = IsUtf8-nil
print_utf8 after_value (token ∷ tokens) have =
    IsUtf8-append _ _ (IsUtf8-separator after_value token) (IsUtf8-append _ _ have.0 (print_utf8 (ends token) tokens have.1))

have-append : (tokens others : List Token) → HaveText tokens → HaveText others → HaveText (tokens ++ others)
have-append [] others have rest = rest
have-append (token ∷ tokens) others have rest = (have.0, have-append tokens others have.1 rest)

-- ---- numbers

glyph_ascii : (n : ℕ) → nat_lt (digit_glyph false (n % 10)) 128 ≡ true
glyph_ascii n =
    let small : n % 10 < 10 = omega arith in
    ap (λ (test : Bool). nat_lt (if test then 48 + n % 10 else 87 + n % 10) 128) (lt-ltb (n % 10) 10 small)
    ∙ lt-ltb (48 + n % 10) 128 (omega (arith, small))

digits_ascii : (count n : ℕ) (rest : List ℕ) → are_ascii rest ≡ true → are_ascii (digits_onto count 10 false n rest) ≡ true
digits_ascii zero n rest ascii = ascii
digits_ascii (suc count) n rest ascii =
    let longer = and_from (nat_lt (digit_glyph false (n % 10)) 128) (are_ascii rest) (glyph_ascii n) ascii in
    elim (cases_Bool (n / 10 == 0)) [
      | inl last ↦ ap (λ (test : Bool). are_ascii (if test then digit_glyph false (n % 10) ∷ rest
          else digits_onto count 10 false (n / 10) (digit_glyph false (n % 10) ∷ rest))) last ∙ longer
      | inr more ↦ ap (λ (test : Bool). are_ascii (if test then digit_glyph false (n % 10) ∷ rest
          else digits_onto count 10 false (n / 10) (digit_glyph false (n % 10) ∷ rest))) more
          ∙ digits_ascii count (n / 10) (digit_glyph false (n % 10) ∷ rest) longer
    ]

decimal_utf8 : (n : ℕ) → IsUtf8 (decimal n)
unfolding digits
decimal_utf8 n = IsUtf8-are_ascii (decimal n) (digits_ascii 64 n [] refl)

signed_utf8 : (z : ℤ) → IsUtf8 (signed_decimal z)
signed_utf8 (pos n) = decimal_utf8 n
signed_utf8 (negsuc n) = IsUtf8-append (45 ∷ []) (decimal (suc n)) (IsUtf8-are_ascii (45 ∷ []) refl) (decimal_utf8 (suc n))

-- ---- members

abbrev AreText : List Field → Type 0
AreText [] = Unit {0}
AreText (one ∷ others) = (IsUtf8 one.name × HaveText (json_tokens one.value)) × AreText others

are-append : (fields others : List Field) → AreText fields → AreText others → AreText (fields ++ others)
are-append [] others are rest = rest
are-append (one ∷ fields) others are rest = (are.0, are-append fields others are.1 rest)

of_members : (fields : List Field) → AreText fields → HaveText (members_tokens (members_of fields))
of_members [] are = (IsUtf8-are_ascii (125 ∷ []) refl, tt)
of_members (one ∷ others) are = (
  IsUtf8-key one.name are.0.0,
  have-append (json_tokens one.value) (members_tokens (members_of others)) are.0.1 (of_members others are.1),
)

of_object : (fields : List Field) → AreText fields → HaveText (json_tokens (object_with fields))
of_object fields are = (IsUtf8-are_ascii (123 ∷ []) refl, of_members fields are)

of_items : (list : List (List ℕ)) → HaveText (items_tokens (strings list))
of_items [] = (IsUtf8-are_ascii (93 ∷ []) refl, tt)
of_items (bytes ∷ others) = (IsUtf8-quoted (text_of bytes) (text_utf8 bytes), of_items others)

of_null : HaveText (json_tokens null)
of_null = (IsUtf8-are_ascii (110 ∷ 117 ∷ 108 ∷ 108 ∷ []) refl, tt)

exact_utf8 : (name : List ℕ) → IsUtf8 name → IsUtf8 (exact_name name)
exact_utf8 name utf8 = IsUtf8-append name (codes "_base64") utf8 (IsUtf8-are_ascii (codes "_base64") refl)

base64_utf8 : (bytes : List ℕ) → IsUtf8 (base64_of bytes)
base64_utf8 bytes = IsUtf8-from_ascii (base64_of bytes) (IsAscii-encode_of standard bytes)

exact_if : (test : Bool) (name bytes : List ℕ) → IsUtf8 name → AreText (exact_fields name (if test then None else Some (base64_of bytes)))
exact_if true name bytes utf8 = tt
exact_if false name bytes utf8 = ((utf8, (IsUtf8-quoted (base64_of bytes) (base64_utf8 bytes), tt)), tt)

of_exact : (name bytes : List ℕ) → IsUtf8 name → AreText (exact_fields name (exact_of bytes))
of_exact name bytes utf8 = exact_if (is_utf8 bytes) name bytes utf8

of_bytes : (name bytes : List ℕ) → IsUtf8 name → AreText (bytes_fields name bytes)
of_bytes name bytes utf8 = (
  (utf8, (IsUtf8-quoted (text_of bytes) (text_utf8 bytes), tt)),
  of_exact (exact_name name) bytes (exact_utf8 name utf8),
)

of_optional_bytes : (name : List ℕ) (bytes : Option (List ℕ)) → IsUtf8 name → AreText (optional_bytes_fields name bytes)
of_optional_bytes name None utf8 = ((utf8, of_null), tt)
of_optional_bytes name (Some bytes) utf8 = of_bytes name bytes utf8

of_number : (value : Option ℕ) → HaveText (json_tokens (number_value value))
of_number None = of_null
of_number (Some value) = (decimal_utf8 value, tt)

of_signed : (value : Option ℤ) → HaveText (json_tokens (signed_value value))
of_signed None = of_null
of_signed (Some value) = (signed_utf8 value, tt)

of_boolean : (value : Option Bool) → HaveText (json_tokens (boolean_value value))
of_boolean None = of_null
of_boolean (Some true) = (IsUtf8-are_ascii (codes "true") refl, tt)
of_boolean (Some false) = (IsUtf8-are_ascii (codes "false") refl, tt)

of_exact_items : (position : ℕ) (list : List (List ℕ)) → AreText (exact_items position list)
of_exact_items position [] = tt
of_exact_items position (bytes ∷ others) =
    are-append (exact_fields (decimal position) (exact_of bytes)) (exact_items (suc position) others)
    (of_exact (decimal position) bytes (decimal_utf8 position)) (of_exact_items (suc position) others)

of_exact_list : (name : List ℕ) (fields : List Field) → IsUtf8 name → AreText fields → AreText (exact_list name fields)
of_exact_list name [] utf8 are = tt
of_exact_list name (one ∷ others) utf8 are = ((utf8, of_object (one ∷ others) are), tt)

of_list : (name : List ℕ) (list : List (List ℕ)) → IsUtf8 name → AreText (list_fields name list)
of_list name list utf8 = (
  (utf8, (IsUtf8-are_ascii (91 ∷ []) refl, of_items list)),
  of_exact_list (exact_name name) (exact_items 0 list) (exact_utf8 name utf8) (of_exact_items 0 list),
)

of_numbers : (values : LogValues) → AreText (number_fields values)
of_numbers values = (
  (IsUtf8-are_ascii (codes "status") refl, of_signed values.status),
  (
    (IsUtf8-are_ascii (codes "start_ms") refl, of_number values.start_ms),
    (
      (IsUtf8-are_ascii (codes "end_ms") refl, of_number values.end_ms),
      (
        (IsUtf8-are_ascii (codes "cpu_ms") refl, of_number values.cpu_ms),
        ((IsUtf8-are_ascii (codes "peak_kb") refl, of_number values.peak_kb), tt),
      ),
    ),
  ),
)

-- ---- diagnostics

severity_utf8 : (severity : Severity) → IsUtf8 (severity_name severity)
severity_utf8 Warning = IsUtf8-are_ascii (codes "warning") refl
severity_utf8 Error = IsUtf8-are_ascii (codes "error") refl
severity_utf8 FatalError = IsUtf8-are_ascii (codes "fatal error") refl

of_diagnostic : (one : LogDiagnostic) (new : Option Bool) → AreText (diagnostic_fields one new)
of_diagnostic one new =
    let file : List Field = optional_bytes_fields (codes "file") (option_map (λ (place : PlaceValue). place.file) one.value.place) in
    let message : List Field = bytes_fields (codes "message") one.value.message in
    let flag : List Field = optional_bytes_fields (codes "flag") one.value.flag in
    let key : List Field = bytes_fields (codes "key") one.value.key in
    let nth : List Field = field (codes "nth") (number (decimal one.nth)) ∷ field (codes "new") (boolean_value new) ∷ [] in (
      (IsUtf8-are_ascii (codes "line") refl, of_number (Some one.line)),
      (
        (
          IsUtf8-are_ascii (codes "severity") refl,
          (IsUtf8-quoted (severity_name one.value.severity) (severity_utf8 one.value.severity), tt),
        ),
        are-append file _ (of_optional_bytes (codes "file") _ (IsUtf8-are_ascii (codes "file") refl)) (
          (IsUtf8-are_ascii (codes "row") refl, of_number (option_map (λ (place : PlaceValue). place.row) one.value.place)),
          (
            (IsUtf8-are_ascii (codes "column") refl, of_number (option_and_then (λ (place : PlaceValue). place.column) one.value.place)),
            are-append message (flag ++ (key
                ++ nth)) (of_bytes (codes "message") one.value.message (IsUtf8-are_ascii (codes "message") refl))
                (are-append flag (key ++ nth) (of_optional_bytes (codes "flag") one.value.flag (IsUtf8-are_ascii (codes "flag") refl))
                (are-append key nth (of_bytes (codes "key") one.value.key (IsUtf8-are_ascii (codes "key") refl)) (
                  (IsUtf8-are_ascii (codes "nth") refl, of_number (Some one.nth)),
                  ((IsUtf8-are_ascii (codes "new") refl, of_boolean new), tt),
                ))),
          ),
        ),
      ),
    )

of_objects : (found : List FlaggedDiagnostic) → HaveText (items_tokens (diagnostic_objects found))
of_objects [] = (IsUtf8-are_ascii (93 ∷ []) refl, tt)
of_objects (one ∷ others) =
    have-append (json_tokens (object_with (diagnostic_fields one.0 one.1))) (items_tokens (diagnostic_objects others))
    (of_object (diagnostic_fields one.0 one.1) (of_diagnostic one.0 one.1)) (of_objects others)

of_changes : (changes : Option ChangesValue) → HaveText (json_tokens (baseline_value changes))
of_changes None = of_null
of_changes (Some changes) =
    of_object (change_fields changes) (
      (IsUtf8-are_ascii (codes "built") refl, of_boolean (Some changes.was_built)),
      (
        (IsUtf8-are_ascii (codes "gone") refl, of_number (Some changes.gone)),
        (
          (IsUtf8-are_ascii (codes "newly_fails") refl, of_boolean (Some changes.newly_fails)),
          ((IsUtf8-are_ascii (codes "fixed") refl, of_boolean (Some changes.is_fixed)), tt),
        ),
      ),
    )

-- The last two members.
of_last : (flags : Option (List Bool)) (lines : List (List ℕ)) (changes : Option ChangesValue)
    → AreText (diagnostics_field flags lines ∷ baseline_field changes ∷ [])
of_last flags lines changes = (
  (IsUtf8-are_ascii (codes "diagnostics") refl, (IsUtf8-are_ascii (91 ∷ []) refl, of_objects (flagged flags (diagnostics_of lines)))),
  ((IsUtf8-are_ascii (codes "baseline") refl, of_changes changes), tt),
)

-- ---- the object of a log

of_fields : (values : LogValues) → AreText (object_fields values)
of_fields values =
    let found : List Field = diagnostics_field (new_flags values.changes) values.lines ∷ baseline_field values.changes ∷ [] in
    let lines : List Field = list_fields (codes "lines") values.lines in
    let needs : List Field = list_fields (codes "needs") values.needs in
    let commands : List Field = list_fields (codes "commands") values.commands in
    let directory : List Field = optional_bytes_fields (codes "directory") values.directory in
    let numbers : List Field = number_fields values in
    let parent : List Field = optional_bytes_fields (codes "parent") values.parent in
    are-append (bytes_fields (codes "target") values.target)
    (parent ++ (numbers ++ (directory ++ (commands ++ (needs ++ (lines ++ found))))))
    (of_bytes (codes "target") values.target (IsUtf8-are_ascii _ refl))
    (are-append parent (numbers ++ (directory ++ (commands ++ (needs ++ (lines ++ found)))))
    (of_optional_bytes (codes "parent") values.parent (IsUtf8-are_ascii _ refl))
    (are-append numbers (directory ++ (commands ++ (needs ++ (lines ++ found)))) (of_numbers values)
    (are-append directory (commands ++ (needs ++ (lines ++ found)))
    (of_optional_bytes (codes "directory") values.directory (IsUtf8-are_ascii _ refl))
    (are-append commands (needs ++ (lines ++ found)) (of_list (codes "commands") values.commands (IsUtf8-are_ascii _ refl))
    (are-append needs (lines ++ found) (of_list (codes "needs") values.needs (IsUtf8-are_ascii _ refl))
    (are-append lines found (of_list (codes "lines") values.lines (IsUtf8-are_ascii _ refl))
    (of_last (new_flags values.changes) values.lines values.changes)))))))

pub object_utf8 : (values : LogValues) → IsUtf8 (print (json_tokens (object_of values)))
object_utf8 values = print_utf8 false (json_tokens (object_of values)) (of_object (object_fields values) (of_fields values))
