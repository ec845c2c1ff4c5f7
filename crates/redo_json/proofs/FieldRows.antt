-- Rows of members: what they say, and an object with them as it is printed. Python's `json` and `base64` computed the values.
use Rattle.std.proofs.Common.{◌≡◌, ℕ, negsuc, true, false, List, [], ◌∷◌, ◌++◌, None, Some, refl}
use Rattle.std.specs.Char.{encode_utf8}
use Rattle.std.specs.Fmt.{digits}
use Rattle.std.specs.Prelude.{codes}
use Rattle.std.specs.List.{AllByRecursion}
use Rattle.std.specs.Str.{chars, is_utf8}
use Rattle.base64.specs.Rfc4648.{encode_symbols}
use Rattle.bstr.specs.Utf8.{pieces_from}
use Rattle.json.specs.Print.{escape_byte, print, print_from}
use Rattle.json.specs.Tree.{json_tokens}
use Rattle.redo_json.specs.Fields.{Field, bytes_fields, list_fields, object_with, optional_bytes_fields}
use Rattle.redo_json.specs.Object.{LogValues, change_fields, number_fields}

record Row : Type 0 where
  fields : List Field
  json : List ℕ

abbrev row : List Field → List ℕ → Row
row fields json = record { fields = fields; json = json }

-- Values of which only the numbers are known.
abbrev known : LogValues
known = record {
  target = [];
  parent = None;
  status = Some (negsuc 1);
  start_ms = Some 10;
  end_ms = Some 20;
  cpu_ms = Some 30;
  peak_kb = Some 40;
  directory = None;
  commands = [];
  needs = [];
  lines = [];
  changes = None;
}

abbrev rows : List Row
rows =
    row (bytes_fields (codes "a") (255 ∷ [])) (codes "{\"a\":\"" ++ (239 ∷ 191 ∷ 189 ∷ []) ++ codes "\",\"a_base64\":\"/w==\"}") ∷
    row (optional_bytes_fields (codes "a") (Some (255 ∷ [])))
    (codes "{\"a\":\"" ++ (239 ∷ 191 ∷ 189 ∷ []) ++ codes "\",\"a_base64\":\"/w==\"}") ∷
    row (list_fields (codes "a") ((255 ∷ []) ∷ []))
    (codes "{\"a\":[\"" ++ (239 ∷ 191 ∷ 189 ∷ []) ++ codes "\"],\"a_base64\":{\"0\":\"/w==\"}}") ∷
    row (list_fields (codes "a") ((255 ∷ []) ∷ (254 ∷ []) ∷ []))
    (codes "{\"a\":[\"" ++ (239 ∷ 191 ∷ 189 ∷ []) ++ codes "\",\"" ++ (239 ∷ 191 ∷ 189 ∷ [])
    ++ codes "\"],\"a_base64\":{\"0\":\"/w==\",\"1\":\"/g==\"}}") ∷
    row (change_fields (record { was_built = true; new = []; gone = 50; newly_fails = false; is_fixed = true }))
    (codes "{\"built\":true,\"gone\":50,\"newly_fails\":false,\"fixed\":true}") ∷
    row (change_fields (record { was_built = false; new = []; gone = 0; newly_fails = true; is_fixed = false }))
    (codes "{\"built\":false,\"gone\":0,\"newly_fails\":true,\"fixed\":false}") ∷
    row (number_fields known) (codes "{\"status\":-2,\"start_ms\":10,\"end_ms\":20,\"cpu_ms\":30,\"peak_kb\":40}") ∷
    []

these_fields : AllByRecursion (λ r. print (json_tokens (object_with r.fields)) ≡ r.json) rows
unfolding chars digits encode_symbols encode_utf8 escape_byte is_utf8 pieces_from print_from
these_fields = (refl, (refl, (refl, (refl, (refl, (refl, (refl, tt)))))))
