-- Rows of strings: bytes, the string of JSON with their text, and their exact bytes. Python's `json` and `base64` computed the values.
use Rattle.std.proofs.Common.{◌≡◌, ℕ, List, [], ◌∷◌, ◌++◌, Option, None, Some, refl}
use Rattle.std.specs.Char.{encode_utf8}
use Rattle.std.specs.Prelude.{codes}
use Rattle.std.specs.List.{AllByRecursion}
use Rattle.std.specs.Str.{chars, is_utf8}
use Rattle.base64.specs.Decode.{groups_bytes, groups_error, scan_steps}
use Rattle.base64.specs.Rfc4648.{encode_symbols}
use Rattle.bstr.specs.Utf8.{pieces_from}
use Rattle.json.specs.Print.{escape_byte, quoted}
use Rattle.redo_json.specs.Text.{bytes_from, exact_of, text_of}

record Row : Type 0 where
  bytes : List ℕ
  string : List ℕ
  exact : Option (List ℕ)

abbrev row : List ℕ → List ℕ → Option (List ℕ) → Row
row bytes string exact = record { bytes = bytes; string = string; exact = exact }

abbrev rows : List Row
rows =
    row [] (codes "\"\"") None ∷
    row (codes "a.c:1: error: x") (codes "\"a.c:1: error: x\"") None ∷
    row (codes "In function " ++ (226 ∷ 128 ∷ 152 ∷ []) ++ codes "f" ++ (226 ∷ 128 ∷ 153 ∷ []) ++ codes ":") (codes "\"In function " ++ (226 ∷ 128 ∷ 152 ∷ []) ++ codes "f" ++ (226 ∷ 128 ∷ 153 ∷ []) ++ codes ":\"") None ∷
    row (codes "caf" ++ (233 ∷ [])) (codes "\"caf" ++ (239 ∷ 191 ∷ 189 ∷ []) ++ codes "\"") (Some (codes "Y2Fm6Q==")) ∷
    row (codes "\"\\/") (codes "\"\\\"\\\\/\"") None ∷
    row ((0 ∷ 1 ∷ 7 ∷ 8 ∷ 9 ∷ 10 ∷ 11 ∷ 12 ∷ 13 ∷ 27 ∷ 31 ∷ []) ++ codes " " ++ (127 ∷ [])) (codes "\"\\u0000\\u0001\\u0007\\b\\t\\n\\u000b\\f\\r\\u001b\\u001f " ++ (127 ∷ []) ++ codes "\"") None ∷
    row (240 ∷ 159 ∷ 152 ∷ 128 ∷ 226 ∷ 128 ∷ 168 ∷ []) (codes "\"" ++ (240 ∷ 159 ∷ 152 ∷ 128 ∷ 226 ∷ 128 ∷ 168 ∷ []) ++ codes "\"") None ∷
    row (237 ∷ 160 ∷ 128 ∷ []) (codes "\"" ++ (239 ∷ 191 ∷ 189 ∷ 239 ∷ 191 ∷ 189 ∷ 239 ∷ 191 ∷ 189 ∷ []) ++ codes "\"") (Some (codes "7aCA")) ∷
    row (192 ∷ 128 ∷ []) (codes "\"" ++ (239 ∷ 191 ∷ 189 ∷ 239 ∷ 191 ∷ 189 ∷ []) ++ codes "\"") (Some (codes "wIA=")) ∷
    row (226 ∷ 130 ∷ []) (codes "\"" ++ (239 ∷ 191 ∷ 189 ∷ []) ++ codes "\"") (Some (codes "4oI=")) ∷
    row ((240 ∷ 159 ∷ 152 ∷ []) ++ codes "a") (codes "\"" ++ (239 ∷ 191 ∷ 189 ∷ []) ++ codes "a\"") (Some (codes "8J+YYQ==")) ∷
    row (255 ∷ 254 ∷ 128 ∷ []) (codes "\"" ++ (239 ∷ 191 ∷ 189 ∷ 239 ∷ 191 ∷ 189 ∷ 239 ∷ 191 ∷ 189 ∷ []) ++ codes "\"") (Some (codes "//6A")) ∷
    row (244 ∷ 144 ∷ 128 ∷ 128 ∷ []) (codes "\"" ++ (239 ∷ 191 ∷ 189 ∷ 239 ∷ 191 ∷ 189 ∷ 239 ∷ 191 ∷ 189 ∷ 239 ∷ 191 ∷ 189 ∷ []) ++ codes "\"") (Some (codes "9JCAgA==")) ∷
    row (codes "a" ++ (226 ∷ []) ++ codes "(b") (codes "\"a" ++ (239 ∷ 191 ∷ 189 ∷ []) ++ codes "(b\"") (Some (codes "YeIoYg==")) ∷
    row (codes "ab" ++ (255 ∷ [])) (codes "\"ab" ++ (239 ∷ 191 ∷ 189 ∷ []) ++ codes "\"") (Some (codes "YWL/")) ∷
    []

these_strings : AllByRecursion (λ r. quoted (text_of r.bytes) ≡ r.string) rows
unfolding chars encode_utf8 escape_byte is_utf8 pieces_from
these_strings = (refl, (refl, (refl, (refl, (refl, (refl, (refl, (refl, (refl, (refl, (refl, (refl, (refl, (refl, (refl, tt)))))))))))))))

these_exact : AllByRecursion (λ r. exact_of r.bytes ≡ r.exact) rows
unfolding chars encode_symbols encode_utf8 is_utf8
these_exact = (refl, (refl, (refl, (refl, (refl, (refl, (refl, (refl, (refl, (refl, (refl, (refl, (refl, (refl, (refl, tt)))))))))))))))

these_bytes : AllByRecursion (λ r. bytes_from (text_of r.bytes) r.exact ≡ Some r.bytes) rows
unfolding chars encode_utf8 groups_bytes groups_error is_utf8 pieces_from scan_steps
these_bytes = (refl, (refl, (refl, (refl, (refl, (refl, (refl, (refl, (refl, (refl, (refl, (refl, (refl, (refl, (refl, tt)))))))))))))))
