-- Rows of objects: the values of a log, and its object as it is printed. Python's `json` and `base64` computed the values.
use Rattle.std.proofs.Common.{◌≡◌, ℕ, ℤ, pos, negsuc, true, false, List, [], ◌∷◌, ◌++◌, Option, None, Some, refl}
use Rattle.std.specs.Char.{encode_utf8}
use Rattle.std.specs.Fmt.{digits}
use Rattle.std.specs.Prelude.{codes}
use Rattle.std.specs.List.{AllByRecursion}
use Rattle.std.specs.Str.{chars, is_utf8}
use Rattle.base64.specs.Rfc4648.{encode_symbols}
use Rattle.bstr.specs.Utf8.{pieces_from}
use Rattle.json.specs.Print.{escape_byte, print, print_from}
use Rattle.json.specs.Tree.{json_tokens}
use Rattle.redo_line.specs.Decimal as decimal
use Rattle.redo_line.specs.Parts.{after_prefix, split_once}
use Rattle.redo_diagnostics.specs.Diagnostic.{before_bracket, diagnostic_of, first_place, masked_after, place_of, split_flag}
use Rattle.redo_diagnostics.specs.Plain.{plain_after}
use Rattle.redo_html.specs.Symbols.{is_sequence, sequence_len}
use Rattle.redo_json.specs.Build.{object_text}
use Rattle.redo_compare.specs.Baseline.{ChangesValue}
use Rattle.redo_json.specs.Object.{LogValues, baseline_field, baseline_value, new_flags}

record Row : Type 0 where
  values : LogValues
  json : List ℕ

abbrev row : LogValues → List ℕ → Row
row values json = record { values = values; json = json }

abbrev log : List ℕ → Option (List ℕ) → Option ℤ → Option ℕ → Option ℕ → Option ℕ → Option ℕ → Option (List ℕ)
    → List (List ℕ) → List (List ℕ) → List (List ℕ) → LogValues
log target parent status start_ms end_ms cpu_ms peak_kb directory commands needs lines = record {
  target = target;
  parent = parent;
  status = status;
  start_ms = start_ms;
  end_ms = end_ms;
  cpu_ms = cpu_ms;
  peak_kb = peak_kb;
  directory = directory;
  commands = commands;
  needs = needs;
  lines = lines;
  changes = None;
}

abbrev HasJson : Row → Type 0
HasJson r = object_text r.values ≡ r.json

-- Nothing is known.
these_unknown : AllByRecursion HasJson (
    row (log (codes "all") None None
    None None None None None
    []
    []
    [])
    (codes "{\"target\":\"all\",\"parent\":null,\"status\":null,\"start_ms\":null,\"end_ms\":null,\"cpu_ms\":null,\"peak_kb\":null,\"directory\":null,\"commands\":[],\"needs\":[],\"lines\":[],\"diagnostics\":[],\"baseline\":null}") ∷
    [])
unfolding chars digits encode_symbols encode_utf8 escape_byte is_utf8 pieces_from print_from after_prefix split_once decimal.number is_sequence sequence_len plain_after first_place place_of before_bracket split_flag masked_after diagnostic_of
these_unknown = (refl, tt)

-- A target that failed.
these_failed : AllByRecursion HasJson (
    row (log (codes "file.o") (Some (codes "all")) (Some (pos 1))
    (Some 1795869824764) (Some 1795869826162) (Some 80) (Some 28228) (Some (codes "."))
    ((codes "gcc -c -o file.o file.c") ∷ [])
    []
    ((codes "file.c: In function " ++ (226 ∷ 128 ∷ 152 ∷ []) ++ codes "f" ++ (226 ∷ 128 ∷ 153 ∷ []) ++ codes ":") ∷ (codes "file.c:870:38: error: x") ∷ [] ∷ []))
    (codes "{\"target\":\"file.o\",\"parent\":\"all\",\"status\":1,\"start_ms\":1795869824764,\"end_ms\":1795869826162,\"cpu_ms\":80,\"peak_kb\":28228,\"directory\":\".\",\"commands\":[\"gcc -c -o file.o file.c\"],\"needs\":[],\"lines\":[\"file.c: In function " ++ (226 ∷ 128 ∷ 152 ∷ []) ++ codes "f" ++ (226 ∷ 128 ∷ 153 ∷ []) ++ codes ":\",\"file.c:870:38: error: x\",\"\"],\"diagnostics\":[{\"line\":1,\"severity\":\"error\",\"file\":\"file.c\",\"row\":870,\"column\":38,\"message\":\"x\",\"flag\":null,\"key\":\"file.c: error: x\",\"nth\":0,\"new\":null}],\"baseline\":null}") ∷
    [])
unfolding chars digits encode_symbols encode_utf8 escape_byte is_utf8 pieces_from print_from after_prefix split_once decimal.number is_sequence sequence_len plain_after first_place place_of before_bracket split_flag masked_after diagnostic_of
these_failed = (refl, tt)

-- Bytes that are not UTF-8.
these_bytes : AllByRecursion HasJson (
    row (log (codes "x" ++ (255 ∷ [])) (Some (233 ∷ [])) (Some (pos 0))
    (Some 0) (Some 9007199254740991) (Some 0) (Some 1) (Some (codes "a\\b" ++ (192 ∷ [])))
    ((codes "a" ++ (10 ∷ []) ++ codes "\"b\"") ∷ (255 ∷ []) ∷ (codes "c") ∷ [])
    ((codes "x") ∷ (codes "y" ++ (254 ∷ [])) ∷ [])
    (((27 ∷ []) ++ codes "[1m" ++ (9 ∷ [])) ∷ (128 ∷ 128 ∷ []) ∷ (codes "ok") ∷ (237 ∷ 160 ∷ 128 ∷ []) ∷ []))
    (codes "{\"target\":\"x" ++ (239 ∷ 191 ∷ 189 ∷ []) ++ codes "\",\"target_base64\":\"eP8=\",\"parent\":\"" ++ (239 ∷ 191 ∷ 189 ∷ []) ++ codes "\",\"parent_base64\":\"6Q==\",\"status\":0,\"start_ms\":0,\"end_ms\":9007199254740991,\"cpu_ms\":0,\"peak_kb\":1,\"directory\":\"a\\\\b" ++ (239 ∷ 191 ∷ 189 ∷ []) ++ codes "\",\"directory_base64\":\"YVxiwA==\",\"commands\":[\"a\\n\\\"b\\\"\",\"" ++ (239 ∷ 191 ∷ 189 ∷ []) ++ codes "\",\"c\"],\"commands_base64\":{\"1\":\"/w==\"},\"needs\":[\"x\",\"y" ++ (239 ∷ 191 ∷ 189 ∷ []) ++ codes "\"],\"needs_base64\":{\"1\":\"ef4=\"},\"lines\":[\"\\u001b[1m\\t\",\"" ++ (239 ∷ 191 ∷ 189 ∷ 239 ∷ 191 ∷ 189 ∷ []) ++ codes "\",\"ok\",\"" ++ (239 ∷ 191 ∷ 189 ∷ 239 ∷ 191 ∷ 189 ∷ 239 ∷ 191 ∷ 189 ∷ []) ++ codes "\"],\"lines_base64\":{\"1\":\"gIA=\",\"3\":\"7aCA\"},\"diagnostics\":[],\"baseline\":null}") ∷
    [])
unfolding chars digits encode_symbols encode_utf8 escape_byte is_utf8 pieces_from print_from after_prefix split_once decimal.number is_sequence sequence_len plain_after first_place place_of before_bracket split_flag masked_after diagnostic_of
these_bytes = (refl, tt)

-- Diagnostics with the same key.
these_warned : AllByRecursion HasJson (
    row (log (codes "a") None (Some (negsuc 1))
    None None None None None
    []
    []
    ((codes "a.c:1: warning: x [-Wx]") ∷ (codes "b: fatal error: y") ∷ (codes "a.c:2:3: warning: x [-Wx]") ∷ (codes "warning:") ∷ (codes "a.c:1: warning: x [-Wx]") ∷ []))
    (codes "{\"target\":\"a\",\"parent\":null,\"status\":-2,\"start_ms\":null,\"end_ms\":null,\"cpu_ms\":null,\"peak_kb\":null,\"directory\":null,\"commands\":[],\"needs\":[],\"lines\":[\"a.c:1: warning: x [-Wx]\",\"b: fatal error: y\",\"a.c:2:3: warning: x [-Wx]\",\"warning:\",\"a.c:1: warning: x [-Wx]\"],\"diagnostics\":[{\"line\":0,\"severity\":\"warning\",\"file\":\"a.c\",\"row\":1,\"column\":null,\"message\":\"x\",\"flag\":\"-Wx\",\"key\":\"a.c: warning: x [-Wx]\",\"nth\":0,\"new\":null},{\"line\":1,\"severity\":\"fatal error\",\"file\":null,\"row\":null,\"column\":null,\"message\":\"y\",\"flag\":null,\"key\":\"b: fatal error: y\",\"nth\":0,\"new\":null},{\"line\":2,\"severity\":\"warning\",\"file\":\"a.c\",\"row\":2,\"column\":3,\"message\":\"x\",\"flag\":\"-Wx\",\"key\":\"a.c: warning: x [-Wx]\",\"nth\":1,\"new\":null},{\"line\":3,\"severity\":\"warning\",\"file\":null,\"row\":null,\"column\":null,\"message\":\"\",\"flag\":null,\"key\":\": warning:\",\"nth\":0,\"new\":null},{\"line\":4,\"severity\":\"warning\",\"file\":\"a.c\",\"row\":1,\"column\":null,\"message\":\"x\",\"flag\":\"-Wx\",\"key\":\"a.c: warning: x [-Wx]\",\"nth\":2,\"new\":null}],\"baseline\":null}") ∷
    [])
unfolding chars digits encode_symbols encode_utf8 escape_byte is_utf8 pieces_from print_from after_prefix split_once decimal.number is_sequence sequence_len plain_after first_place place_of before_bracket split_flag masked_after diagnostic_of
these_warned = (refl, tt)

-- A diagnostic with bytes that are not UTF-8.
these_places : AllByRecursion HasJson (
    row (log (codes "b") None None
    None None None None None
    []
    ((codes "c") ∷ [])
    (((233 ∷ []) ++ codes ":7:8: error: " ++ (255 ∷ []) ++ codes " [" ++ (254 ∷ []) ++ codes "]") ∷ []))
    (codes "{\"target\":\"b\",\"parent\":null,\"status\":null,\"start_ms\":null,\"end_ms\":null,\"cpu_ms\":null,\"peak_kb\":null,\"directory\":null,\"commands\":[],\"needs\":[\"c\"],\"lines\":[\"" ++ (239 ∷ 191 ∷ 189 ∷ []) ++ codes ":7:8: error: " ++ (239 ∷ 191 ∷ 189 ∷ []) ++ codes " [" ++ (239 ∷ 191 ∷ 189 ∷ []) ++ codes "]\"],\"lines_base64\":{\"0\":\"6To3Ojg6IGVycm9yOiD/IFv+XQ==\"},\"diagnostics\":[{\"line\":0,\"severity\":\"error\",\"file\":\"" ++ (239 ∷ 191 ∷ 189 ∷ []) ++ codes "\",\"file_base64\":\"6Q==\",\"row\":7,\"column\":8,\"message\":\"" ++ (239 ∷ 191 ∷ 189 ∷ []) ++ codes "\",\"message_base64\":\"/w==\",\"flag\":\"" ++ (239 ∷ 191 ∷ 189 ∷ []) ++ codes "\",\"flag_base64\":\"/g==\",\"key\":\"" ++ (239 ∷ 191 ∷ 189 ∷ []) ++ codes ": error: " ++ (239 ∷ 191 ∷ 189 ∷ []) ++ codes " [" ++ (239 ∷ 191 ∷ 189 ∷ []) ++ codes "]\",\"key_base64\":\"6TogZXJyb3I6IP8gW/5d\",\"nth\":0,\"new\":null}],\"baseline\":null}") ∷
    [])
unfolding chars digits encode_symbols encode_utf8 escape_byte is_utf8 pieces_from print_from after_prefix split_once decimal.number is_sequence sequence_len plain_after first_place place_of before_bracket split_flag masked_after diagnostic_of
these_places = (refl, tt)

-- What changed since a baseline.
these_compared : AllByRecursion HasJson (
    row (record (log (codes "a") None (Some (pos 1))
    None None None None None
    []
    []
    ((codes "error: x") ∷ (codes "y") ∷ (codes "error: x") ∷ []))
    { changes = Some (record { was_built = true; new = false ∷ true ∷ []; gone = 12; newly_fails = true; is_fixed = false }) })
    (codes "{\"target\":\"a\",\"parent\":null,\"status\":1,\"start_ms\":null,\"end_ms\":null,\"cpu_ms\":null,\"peak_kb\":null,\"directory\":null,\"commands\":[],\"needs\":[],\"lines\":[\"error: x\",\"y\",\"error: x\"],\"diagnostics\":[{\"line\":0,\"severity\":\"error\",\"file\":null,\"row\":null,\"column\":null,\"message\":\"x\",\"flag\":null,\"key\":\": error: x\",\"nth\":0,\"new\":false},{\"line\":2,\"severity\":\"error\",\"file\":null,\"row\":null,\"column\":null,\"message\":\"x\",\"flag\":null,\"key\":\": error: x\",\"nth\":1,\"new\":true}],\"baseline\":{\"built\":true,\"gone\":12,\"newly_fails\":true,\"fixed\":false}}") ∷
    row (record (log (codes "b") None None
    None None None None None
    []
    []
    [])
    { changes = Some (record { was_built = false; new = []; gone = 0; newly_fails = false; is_fixed = true }) })
    (codes "{\"target\":\"b\",\"parent\":null,\"status\":null,\"start_ms\":null,\"end_ms\":null,\"cpu_ms\":null,\"peak_kb\":null,\"directory\":null,\"commands\":[],\"needs\":[],\"lines\":[],\"diagnostics\":[],\"baseline\":{\"built\":false,\"gone\":0,\"newly_fails\":false,\"fixed\":true}}") ∷
    [])
unfolding chars digits encode_symbols encode_utf8 escape_byte is_utf8 pieces_from print_from after_prefix split_once decimal.number is_sequence sequence_len plain_after first_place place_of before_bracket split_flag masked_after diagnostic_of
these_compared = (refl, (refl, tt))

abbrev some_changes : ChangesValue
some_changes = record { was_built = true; new = false ∷ true ∷ []; gone = 3; newly_fails = false; is_fixed = true }

these_changes :
    (print (json_tokens (baseline_value (Some some_changes))) ≡ codes "{\"built\":true,\"gone\":3,\"newly_fails\":false,\"fixed\":true}")
    × (print (json_tokens (baseline_value None)) ≡ codes "null")
    × (print (json_tokens (baseline_field (Some some_changes)).value)
    ≡ codes "{\"built\":true,\"gone\":3,\"newly_fails\":false,\"fixed\":true}")
    × (new_flags (Some some_changes) ≡ Some (false ∷ true ∷ []))
    × (new_flags None ≡ None)
unfolding digits escape_byte print_from
these_changes = (refl, refl, refl, refl, refl)
