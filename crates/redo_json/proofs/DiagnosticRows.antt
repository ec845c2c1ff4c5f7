-- Rows of the diagnostics of logs. Python's `json` and `base64` computed the JSON.
use Rattle.std.proofs.Common.{◌≡◌, ℕ, Bool, true, false, List, [], ◌∷◌, ◌++◌, Option, None, Some, map, refl}
use Rattle.std.specs.Char.{encode_utf8}
use Rattle.std.specs.Fmt.{digits}
use Rattle.std.specs.Prelude.{codes}
use Rattle.std.specs.List.{AllByRecursion}
use Rattle.std.specs.Str.{chars, is_utf8}
use Rattle.base64.specs.Rfc4648.{encode_symbols}
use Rattle.bstr.specs.Utf8.{pieces_from}
use Rattle.json.specs.Print.{escape_byte, print, print_from}
use Rattle.json.specs.Tree.{json_tokens}
use Rattle.redo_line.specs.Decimal as decimal
use Rattle.redo_line.specs.Parts.{after_prefix, split_once}
use Rattle.redo_diagnostics.specs.declared.severity.Severity.{Severity}
use Rattle.redo_diagnostics.specs.declared.severity.Severity.TheVariants.{Warning, Error, FatalError}
use Rattle.redo_diagnostics.specs.Diagnostic.{PlaceValue, before_bracket, diagnostic_of, first_place, masked_after, place_of, split_flag}
use Rattle.redo_diagnostics.specs.Plain.{plain_after}
use Rattle.redo_html.specs.Symbols.{is_sequence, sequence_len}
use Rattle.redo_json.specs.Diagnostics.{FlaggedDiagnostic, LogDiagnostic, diagnostic_fields, diagnostics_field, diagnostics_of, flagged}
use Rattle.redo_json.specs.Fields.{object_with}

abbrev found : ℕ → Severity → Option PlaceValue → List ℕ → Option (List ℕ) → List ℕ → ℕ → LogDiagnostic
found line severity place message flag key nth = record {
  line = line;
  value = record { severity = severity; place = place; message = message; flag = flag; key = key };
  nth = nth;
}

-- The lines of a log, and their diagnostics.
record LinesRow : Type 0 where
  lines : List (List ℕ)
  diagnostics : List LogDiagnostic

these_diagnostics : AllByRecursion (λ (r : LinesRow). diagnostics_of r.lines ≡ r.diagnostics) (
    record { lines = []; diagnostics = [] } ∷
    record {
      lines = codes "a.c:1: warning: x" ∷ codes "b" ∷ codes "a.c:2:3: warning: x" ∷ codes "error:" ∷ codes "a.c:1: warning: x" ∷ [];
      diagnostics =
          found 0 Warning (Some (record { file = codes "a.c"; row = 1; column = None })) (codes "x") None (codes "a.c: warning: x") 0
          ∷ found 2 Warning (Some (record { file = codes "a.c"; row = 2; column = Some 3 })) (codes "x") None (codes "a.c: warning: x") 1
          ∷ found 3 Error None [] None (codes ": error:") 0
          ∷ found 4 Warning (Some (record { file = codes "a.c"; row = 1; column = None })) (codes "x") None (codes "a.c: warning: x") 2
          ∷ [];
    } ∷
    [])
unfolding after_prefix split_once decimal.number is_sequence sequence_len plain_after first_place place_of before_bracket split_flag masked_after diagnostic_of
these_diagnostics = (refl, (refl, tt))

abbrev three_errors : List (List ℕ)
three_errors = codes "error: x" ∷ codes "error: y" ∷ codes "error: z" ∷ []

-- The flags that three diagnostics get.
abbrev flags_of_three : Option (List Bool) → List (Option Bool)
flags_of_three flags = map (λ (one : FlaggedDiagnostic). one.1) (flagged flags (diagnostics_of three_errors))

these_flags :
    (flags_of_three (Some (true ∷ false ∷ true ∷ [])) ≡ Some true ∷ Some false ∷ Some true ∷ [])
    × (flags_of_three (Some (false ∷ true ∷ [])) ≡ Some false ∷ Some true ∷ None ∷ [])
    × (flags_of_three None ≡ None ∷ None ∷ None ∷ [])
unfolding after_prefix split_once decimal.number is_sequence sequence_len plain_after first_place place_of before_bracket split_flag masked_after diagnostic_of
these_flags = (refl, refl, refl)

-- A diagnostic, whether it is new, and its object.
record Row : Type 0 where
  one : LogDiagnostic
  new : Option Bool
  json : List ℕ

abbrev HasJson : Row → Type 0
HasJson r = print (json_tokens (object_with (diagnostic_fields r.one r.new))) ≡ r.json

these_placed : AllByRecursion HasJson (record {
  one = found 7 Warning (Some (record { file = codes "a.c"; row = 1; column = Some 2 })) (codes "x") (Some (codes "-Wy")) (codes "a.c: warning: x [-Wy]") 4;
  new = Some true;
  json = codes "{\"line\":7,\"severity\":\"warning\",\"file\":\"a.c\",\"row\":1,\"column\":2,\"message\":\"x\",\"flag\":\"-Wy\",\"key\":\"a.c: warning: x [-Wy]\",\"nth\":4,\"new\":true}";
} ∷ [])
unfolding chars digits encode_symbols encode_utf8 escape_byte is_utf8 pieces_from print_from
these_placed = (refl, tt)

these_unplaced : AllByRecursion HasJson (record {
  one = found 0 Error None (codes "y") None (codes ": error: y") 0;
  new = Some false;
  json = codes "{\"line\":0,\"severity\":\"error\",\"file\":null,\"row\":null,\"column\":null,\"message\":\"y\",\"flag\":null,\"key\":\": error: y\",\"nth\":0,\"new\":false}";
} ∷ [])
unfolding chars digits encode_symbols encode_utf8 escape_byte is_utf8 pieces_from print_from
these_unplaced = (refl, tt)

these_bytes : AllByRecursion HasJson (record {
  one = found 1 FatalError None (254 ∷ []) (Some (253 ∷ [])) ((255 ∷ []) ++ codes ": fatal error: " ++ (254 ∷ []) ++ codes " [" ++ (253 ∷ []) ++ codes "]") 0;
  new = None;
  json = codes "{\"line\":1,\"severity\":\"fatal error\",\"file\":null,\"row\":null,\"column\":null,\"message\":\"" ++ (239 ∷ 191 ∷ 189 ∷ []) ++ codes "\",\"message_base64\":\"/g==\",\"flag\":\"" ++ (239 ∷ 191 ∷ 189 ∷ []) ++ codes "\",\"flag_base64\":\"/Q==\",\"key\":\"" ++ (239 ∷ 191 ∷ 189 ∷ []) ++ codes ": fatal error: " ++ (239 ∷ 191 ∷ 189 ∷ []) ++ codes " [" ++ (239 ∷ 191 ∷ 189 ∷ []) ++ codes "]\",\"key_base64\":\"/zogZmF0YWwgZXJyb3I6IP4gW/1d\",\"nth\":0,\"new\":null}";
} ∷ [])
unfolding chars digits encode_symbols encode_utf8 escape_byte is_utf8 pieces_from print_from
these_bytes = (refl, tt)

-- The flags of a log's diagnostics, its lines, and the member with its diagnostics.
record MemberRow : Type 0 where
  flags : Option (List Bool)
  lines : List (List ℕ)
  json : List ℕ

these_members : AllByRecursion (λ (r : MemberRow). print (json_tokens (object_with (diagnostics_field r.flags r.lines ∷ []))) ≡ r.json) (
    record { flags = None; lines = []; json = codes "{\"diagnostics\":[]}" } ∷
    record { flags = Some []; lines = []; json = codes "{\"diagnostics\":[]}" } ∷
    record {
      flags = None;
      lines = codes "error: y" ∷ codes "error: y" ∷ [];
      json = codes "{\"diagnostics\":[{\"line\":0,\"severity\":\"error\",\"file\":null,\"row\":null,\"column\":null,\"message\":\"y\",\"flag\":null,\"key\":\": error: y\",\"nth\":0,\"new\":null},{\"line\":1,\"severity\":\"error\",\"file\":null,\"row\":null,\"column\":null,\"message\":\"y\",\"flag\":null,\"key\":\": error: y\",\"nth\":1,\"new\":null}]}";
    } ∷
    record {
      flags = Some (false ∷ true ∷ []);
      lines = codes "error: y" ∷ codes "x" ∷ codes "error: z" ∷ [];
      json = codes "{\"diagnostics\":[{\"line\":0,\"severity\":\"error\",\"file\":null,\"row\":null,\"column\":null,\"message\":\"y\",\"flag\":null,\"key\":\": error: y\",\"nth\":0,\"new\":false},{\"line\":2,\"severity\":\"error\",\"file\":null,\"row\":null,\"column\":null,\"message\":\"z\",\"flag\":null,\"key\":\": error: z\",\"nth\":0,\"new\":true}]}";
    } ∷
    [])
unfolding chars digits encode_symbols encode_utf8 escape_byte is_utf8 pieces_from print_from after_prefix split_once decimal.number is_sequence sequence_len plain_after first_place place_of before_bracket split_flag masked_after diagnostic_of
these_members = (refl, (refl, (refl, (refl, tt))))
