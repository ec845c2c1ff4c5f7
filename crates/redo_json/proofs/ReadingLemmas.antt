-- Objects are read back.
use Rattle.std.proofs.Common.{◌≡◌, ℕ, ℤ, suc, ◌+◌, ◌<◌, ◌≤◌, ◌^◌, Bool, List, [], ◌∷◌, ◌++◌, Option, None, Some, length, option_and_then, option_map, refl, arith}
use Rattle.std.specs.Prelude.{codes, decimal}
use Rattle.std.specs.List.{AllByRecursion}
use Rattle.std.proofs.lemmas.List.{length-append}
use Rattle.json.specs.Json.{Json, number, string}
use Rattle.json.specs.Tree.{HasNumbers, ItemsHaveNumbers, MembersHaveNumbers, depth, items_depth, members_depth}
use Rattle.json.proofs.Printed.Decimals.{IsNumber-decimal, IsNumber-signed_decimal}
use Rattle.json.proofs.Printed.Trees.{document-print}
use Rattle.redo_diagnostics.specs.Diagnostic.{DiagnosticValue, PlaceValue, diagnostic_of}
use Rattle.redo_compare.specs.Baseline.{ChangesValue}
use Rattle.redo_json.specs.Diagnostics.{FlaggedDiagnostic, LogDiagnostic, diagnostic_fields, diagnostic_objects, diagnostics_field, diagnostics_of, flagged, numbered_from, other_flags, placed_from, placed_if, severity_name}
use Rattle.redo_json.specs.Fields.{Field, boolean_value, field, bytes_fields, exact_fields, exact_items, exact_list, exact_name, list_fields, members_of, number_value, object_with, optional_bytes_fields, signed_value, strings}
use Rattle.redo_json.specs.Laws.{HasExactNumbers, IsExact, IsExactSigned, IsReadBack, gone_count}
use Rattle.redo_json.specs.Object.{LogValues, baseline_field, change_fields, new_flags, number_fields, object_fields, object_of}
use Rattle.redo_json.specs.Text.{exact_of, text_of}
use Rattle.redo_json.proofs.DiagnosingLemmas.{times_low}
use Rattle.redo_json.proofs.PlaceLemmas.{IsExactPlace, exact_place}

-- A value has numbers and is no deeper than this.
record IsSmall (levels : ℕ) (json : Json) : Type 0 where
  numbers : HasNumbers json
  shallow : depth json ≤ levels

-- The value of each member has numbers and is no deeper than this.
abbrev AreSmall : ℕ → List Field → Type 0
AreSmall levels [] = Unit {0}
AreSmall levels (one ∷ others) = IsSmall levels one.value × AreSmall levels others

all-append : (levels : ℕ) (fields others : List Field)
    → AreSmall levels fields → AreSmall levels others → AreSmall levels (fields ++ others)
all-append levels [] others small rest = rest
all-append levels (one ∷ fields) others small rest = (small.0, all-append levels fields others small.1 rest)

members_numbers : (levels : ℕ) (fields : List Field) → AreSmall levels fields → MembersHaveNumbers (members_of fields)
members_numbers levels [] small = tt
members_numbers levels (one ∷ fields) small = (small.0.numbers, members_numbers levels fields small.1)

members_shallow : (levels : ℕ) (fields : List Field) → AreSmall levels fields → members_depth (members_of fields) ≤ levels
members_shallow levels [] small = omega arith
members_shallow levels (one ∷ fields) small = omega (arith, small.0.shallow, members_shallow levels fields small.1)

of_string : (levels : ℕ) (text : List ℕ) → IsSmall levels (string text)
of_string levels text = record { numbers = tt; shallow = omega arith }

of_object : (levels : ℕ) (fields : List Field) → AreSmall levels fields → IsSmall (suc levels) (object_with fields)
of_object levels fields small = record {
  numbers = members_numbers levels fields small;
  shallow = omega (arith, members_shallow levels fields small);
}

items_numbers : (list : List (List ℕ)) → ItemsHaveNumbers (strings list)
items_numbers [] = tt
items_numbers (bytes ∷ others) = (tt, items_numbers others)

items_shallow : (list : List (List ℕ)) → items_depth (strings list) ≤ 0
items_shallow [] = omega arith
items_shallow (bytes ∷ others) = omega (arith, items_shallow others)

of_exact : (levels : ℕ) (name : List ℕ) (exact : Option (List ℕ)) → AreSmall levels (exact_fields name exact)
of_exact levels name None = tt
of_exact levels name (Some exact) = (of_string levels exact, tt)

of_bytes : (levels : ℕ) (name bytes : List ℕ) → AreSmall levels (bytes_fields name bytes)
of_bytes levels name bytes = (of_string levels (text_of bytes), of_exact levels (exact_name name) (exact_of bytes))

of_optional_bytes : (levels : ℕ) (name : List ℕ) (bytes : Option (List ℕ)) → AreSmall levels (optional_bytes_fields name bytes)
of_optional_bytes levels name None = (record { numbers = tt; shallow = omega arith }, tt)
of_optional_bytes levels name (Some bytes) = of_bytes levels name bytes

of_number : (levels : ℕ) (value : Option ℕ) → IsExact value → IsSmall levels (number_value value)
of_number levels None exact = record { numbers = tt; shallow = omega arith }
of_number levels (Some value) exact = record { numbers = IsNumber-decimal value (omega (arith, exact)); shallow = omega arith }

of_signed : (levels : ℕ) (value : Option ℤ) → IsExactSigned value → IsSmall levels (signed_value value)
of_signed levels None exact = record { numbers = tt; shallow = omega arith }
of_signed levels (Some value) exact = record { numbers = IsNumber-signed_decimal value (omega (arith, exact)); shallow = omega arith }

of_boolean : (levels : ℕ) (value : Option Bool) → IsSmall levels (boolean_value value)
of_boolean levels None = record { numbers = tt; shallow = omega arith }
of_boolean levels (Some value) = record { numbers = tt; shallow = omega arith }

of_exact_items : (position : ℕ) (list : List (List ℕ)) → AreSmall 0 (exact_items position list)
of_exact_items position [] = tt
of_exact_items position (bytes ∷ others) =
    all-append 0 (exact_fields _ (exact_of bytes)) (exact_items (suc position) others) (of_exact 0 _ (exact_of bytes))
    (of_exact_items (suc position) others)

of_exact_list : (name : List ℕ) (fields : List Field) → AreSmall 0 fields → AreSmall 2 (exact_list name fields)
of_exact_list name [] small = tt
of_exact_list name (one ∷ others) small =
    let object = of_object 0 (one ∷ others) small in
    (record { numbers = object.numbers; shallow = omega (arith, object.shallow) }, tt)

of_list : (name : List ℕ) (list : List (List ℕ)) → AreSmall 2 (list_fields name list)
of_list name list = (
  record { numbers = items_numbers list; shallow = omega (arith, items_shallow list) },
  of_exact_list (exact_name name) (exact_items 0 list) (of_exact_items 0 list),
)

of_numbers : (values : LogValues) → HasExactNumbers values → AreSmall 2 (number_fields values)
of_numbers values exact = (
  of_signed 2 values.status exact.0,
  (
    of_number 2 values.start_ms exact.1,
    (of_number 2 values.end_ms exact.2, (of_number 2 values.cpu_ms exact.3, (of_number 2 values.peak_kb exact.4, tt))),
  ),
)

-- ---- diagnostics

record IsExactDiagnostic (one : LogDiagnostic) : Type 0 where
  line : one.line < 2 ^ 53
  place : IsExactPlace one.value.place
  nth : one.nth < 2 ^ 53

of_diagnostic : (one : LogDiagnostic) (new : Option Bool) → IsExactDiagnostic one → AreSmall 0 (diagnostic_fields one new)
of_diagnostic one new exact =
    let file : List Field = optional_bytes_fields (codes "file") (option_map (λ (place : PlaceValue). place.file) one.value.place) in
    let message : List Field = bytes_fields (codes "message") one.value.message in
    let flag : List Field = optional_bytes_fields (codes "flag") one.value.flag in
    let key : List Field = bytes_fields (codes "key") one.value.key in
    let nth : List Field = field (codes "nth") (number (decimal one.nth)) ∷ field (codes "new") (boolean_value new) ∷ [] in (
      of_number 0 (Some one.line) exact.line,
      (
        of_string 0 (severity_name one.value.severity),
        all-append 0 file _ (of_optional_bytes 0 (codes "file") _) (
          of_number 0 (option_map (λ (place : PlaceValue). place.row) one.value.place) exact.place.row,
          (
            of_number 0 (option_and_then (λ (place : PlaceValue). place.column) one.value.place) exact.place.column,
            all-append 0 message (flag ++ (key ++ nth)) (of_bytes 0 (codes "message") one.value.message)
                (all-append 0 flag (key ++ nth) (of_optional_bytes 0 (codes "flag") one.value.flag)
                (all-append 0 key nth (of_bytes 0 (codes "key") one.value.key) (of_number 0 (Some one.nth) exact.nth, (of_boolean 0 new, tt)))),
          ),
        ),
      ),
    )

abbrev IsExactFlagged : FlaggedDiagnostic → Type 0
IsExactFlagged one = IsExactDiagnostic one.0

flagged_exact : (flags : Option (List Bool)) (found : List LogDiagnostic) → AllByRecursion IsExactDiagnostic found
    → AllByRecursion IsExactFlagged (flagged flags found)
flagged_exact flags [] exact = tt
flagged_exact flags (one ∷ others) exact = (exact.0, flagged_exact (other_flags flags) others exact.1)

objects_numbers : (found : List FlaggedDiagnostic) → AllByRecursion IsExactFlagged found → ItemsHaveNumbers (diagnostic_objects found)
objects_numbers [] exact = tt
objects_numbers (one ∷ others) exact =
    ((of_object 0 (diagnostic_fields one.0 one.1) (of_diagnostic one.0 one.1 exact.0)).numbers, objects_numbers others exact.1)

objects_shallow : (found : List FlaggedDiagnostic) → AllByRecursion IsExactFlagged found → items_depth (diagnostic_objects found) ≤ 1
objects_shallow [] exact = omega arith
objects_shallow (one ∷ others) exact =
    let first = (of_object 0 (diagnostic_fields one.0 one.1) (of_diagnostic one.0 one.1 exact.0)).shallow in
    let rest = objects_shallow others exact.1 in
    omega (arith, first, rest)

exact_from : (keys : List (List ℕ)) (position : ℕ) (lines : List (List ℕ)) → position + length lines ≤ 2 ^ 53 → length keys ≤ position
    → AllByRecursion IsExactDiagnostic (numbered_from keys (placed_from position lines))
exact_from keys position [] few low = tt
exact_from keys position (line ∷ lines) few low =
    by (diagnostic_of line) refl (exact_from keys (suc position) lines (omega (arith, few)) (omega (arith, low)))
    (λ key. exact_from (keys ++ key ∷ []) (suc position) lines (omega (arith, few)) (omega (arith, low, length-append keys (key ∷ []))))
  where
    by : (found : Option DiagnosticValue) → diagnostic_of line ≡ found
        → AllByRecursion IsExactDiagnostic (numbered_from keys (placed_from (suc position) lines))
        → ((key : List ℕ) → AllByRecursion IsExactDiagnostic (numbered_from (keys ++ key ∷ []) (placed_from (suc position) lines)))
        → AllByRecursion IsExactDiagnostic (numbered_from keys (placed_if position found (placed_from (suc position) lines)))
    by None is others after = others
    by (Some value) is others after =
        let times = times_low value.key keys in
        (record { line = omega (arith, few); place = exact_place line value is; nth = omega (arith, few, low, times) }, after value.key)

of_diagnostics : (flags : Option (List Bool)) (lines : List (List ℕ)) → length lines ≤ 2 ^ 53
    → IsSmall 2 (diagnostics_field flags lines).value
of_diagnostics flags lines few =
    let exact = flagged_exact flags (diagnostics_of lines) (exact_from [] 0 lines (omega (arith, few)) (omega arith)) in
    record {
      numbers = objects_numbers (flagged flags (diagnostics_of lines)) exact;
      shallow = omega (arith, objects_shallow (flagged flags (diagnostics_of lines)) exact);
    }

-- ---- changes

of_changes : (changes : Option ChangesValue) → IsExact (gone_count changes) → IsSmall 2 (baseline_field changes).value
of_changes None exact = record { numbers = tt; shallow = omega arith }
of_changes (Some changes) exact =
    let fields : AreSmall 0 (change_fields changes) = (
      of_boolean 0 (Some changes.was_built),
      (
        of_number 0 (Some changes.gone) exact,
        (of_boolean 0 (Some changes.newly_fails), (of_boolean 0 (Some changes.is_fixed), tt)),
      ),
    ) in
    let object = of_object 0 (change_fields changes) fields in
    record { numbers = object.numbers; shallow = omega (arith, object.shallow) }

-- ---- the object of a log

of_fields : (values : LogValues) → HasExactNumbers values → AreSmall 2 (object_fields values)
of_fields values exact =
    let found : List Field = diagnostics_field (new_flags values.changes) values.lines ∷ baseline_field values.changes ∷ [] in
    let lines : List Field = list_fields (codes "lines") values.lines in
    let needs : List Field = list_fields (codes "needs") values.needs in
    let commands : List Field = list_fields (codes "commands") values.commands in
    let directory : List Field = optional_bytes_fields (codes "directory") values.directory in
    let numbers : List Field = number_fields values in
    let parent : List Field = optional_bytes_fields (codes "parent") values.parent in
    all-append 2 (bytes_fields (codes "target") values.target)
    (parent ++ (numbers ++ (directory ++ (commands ++ (needs ++ (lines ++ found)))))) (of_bytes 2 (codes "target") values.target)
    (all-append 2 parent (numbers ++ (directory ++ (commands ++ (needs ++ (lines ++ found)))))
    (of_optional_bytes 2 (codes "parent") values.parent)
    (all-append 2 numbers (directory ++ (commands ++ (needs ++ (lines ++ found)))) (of_numbers values exact)
    (all-append 2 directory (commands ++ (needs ++ (lines ++ found))) (of_optional_bytes 2 (codes "directory") values.directory)
    (all-append 2 commands (needs ++ (lines ++ found)) (of_list (codes "commands") values.commands)
    (all-append 2 needs (lines ++ found) (of_list (codes "needs") values.needs)
    (all-append 2 lines found (of_list (codes "lines") values.lines) (
      of_diagnostics (new_flags values.changes) values.lines exact.5,
      (of_changes values.changes exact.6, tt),
    )))))))

pub has_numbers : (values : LogValues) → HasExactNumbers values → HasNumbers (object_of values)
has_numbers values exact = (of_object 2 (object_fields values) (of_fields values exact)).numbers

pub read_back : (values : LogValues) → HasExactNumbers values → IsReadBack (object_of values)
read_back values exact =
    let small = of_object 2 (object_fields values) (of_fields values exact) in
    document-print (object_of values) small.numbers (omega (arith, small.shallow))
