-- Bytes that strings have as they are, and diagnostics of such bytes.
use Rattle.std.proofs.Common.{◌≡◌, ℕ, Bool, true, List, [], ◌∷◌, ◌++◌, Option, None, Some, refl, sym, ap, ap₂, ◌∙◌, append_assoc}
use Rattle.std.specs.Prelude.{IfSome, codes, decimal, nat_lt}
use Rattle.std.specs.List.{list_all}
use Rattle.std.proofs.lemmas.Bool.{and_from, and_parts}
use Rattle.std.proofs.lemmas.List.{append-nil}
use Rattle.std.proofs.lemmas.Str.{is_utf8-from_IsUtf8}
use Rattle.json.specs.Print.{print}
use Rattle.json.specs.Run.{is_plain}
use Rattle.json.specs.Tree.{json_tokens}
use Rattle.json.proofs.Printed.Utf8.{IsUtf8-are_ascii, are_ascii}
use Rattle.redo_diagnostics.specs.declared.severity.Severity.{Severity}
use Rattle.redo_diagnostics.specs.Diagnostic.{DiagnosticValue, PlaceValue}
use Rattle.redo_json.specs.Diagnostics.{LogDiagnostic}
use Rattle.redo_json.specs.Fields.{bytes_fields, number_value, optional_bytes_fields}
use Rattle.redo_json.specs.Private.Parts.{comma_fields, comma_if, diagnostic_back, diagnostic_front, diagnostic_text, flag_text, number_text, place_text, severity_text, string_start, strings_text}
use Rattle.redo_json.specs.Private.Diagnosing.{IsVerbatimDiagnostic}
use Rattle.redo_json.specs.Private.Writing.{IsVerbatim, is_verbatim_byte}
use Rattle.redo_json.proofs.DiagnosticLemmas.{diagnostic_parts, end_text, flag_start, key_start, last_is, last_text, message_start, no_flag, place_parts}
use Rattle.redo_json.proofs.EscapeLemmas.{escape_plain}
use Rattle.redo_json.proofs.PartLemmas.{text_member_from}

ascii_bytes : (bytes : List ℕ) → list_all is_verbatim_byte bytes ≡ true → are_ascii bytes ≡ true
ascii_bytes [] all = refl
ascii_bytes (x ∷ xs) all =
    let both = and_parts (is_verbatim_byte x) (list_all is_verbatim_byte xs) all in
    let one = and_parts (is_plain x) (nat_lt x 128) both.0 in
    and_from (nat_lt x 128) (are_ascii xs) one.1 (ascii_bytes xs both.1)

pub plain_bytes : (bytes : List ℕ) → list_all is_verbatim_byte bytes ≡ true → list_all is_plain bytes ≡ true
plain_bytes [] all = refl
plain_bytes (x ∷ xs) all =
    let both = and_parts (is_verbatim_byte x) (list_all is_verbatim_byte xs) all in
    let one = and_parts (is_plain x) (nat_lt x 128) both.0 in
    and_from (is_plain x) (list_all is_plain xs) one.0 (plain_bytes xs both.1)

pub verbatim_bytes : (bytes : List ℕ) → list_all is_verbatim_byte bytes ≡ true → IsVerbatim bytes
verbatim_bytes bytes all = record {
  utf8 = is_utf8-from_IsUtf8 bytes (IsUtf8-are_ascii bytes (ascii_bytes bytes all));
  escaped = escape_plain bytes (plain_bytes bytes all);
}

-- A member with a string that has bytes as they are.
member_with : (name start bytes : List ℕ) → start ≡ string_start name → IsVerbatim bytes
    → start ++ (bytes ++ 34 ∷ []) ≡ comma_fields (bytes_fields name bytes)
member_with name start bytes starts is =
    ap (λ (l : List ℕ). start ++ (l ++ 34 ∷ [])) (sym is.escaped) ∙ text_member_from name start bytes starts is.utf8

-- ---- the front

module _ (is_first : Bool) (line : ℕ) (value : DiagnosticValue) (start : List ℕ)
    (starts : start ≡ comma_if is_first ++ codes "{\"line\":") where
  pub in_front : (middle : List ℕ) → middle ≡ severity_text value.severity ++ (place_text value.place ++ string_start (codes "message"))
      → start ++ (decimal line ++ middle) ≡ diagnostic_front is_first line value
  in_front middle is =
      ap (λ (l : List ℕ). l ++ (decimal line ++ middle)) starts
      ∙ append_assoc (comma_if is_first) (codes "{\"line\":") (decimal line ++ middle)
      ∙ ap (λ (l : List ℕ). comma_if is_first ++ (codes "{\"line\":" ++ (decimal line ++ l))) is

-- The members with a severity and a place, and the start of the member with the message.
pub place_joined : (severity : Severity) (place : PlaceValue) (middle file : List ℕ) (row : ℕ) (column : Option ℕ) → IsVerbatim place.file
    → middle ≡ severity_text severity ++ string_start (codes "file")
    → file ≡ place.file → row ≡ place.row → column ≡ place.column
    → middle ++ (file ++ (codes "\",\"row\":" ++ (decimal row
    ++ (codes ",\"column\":" ++ (print (json_tokens (number_value column)) ++ codes ",\"message\":\"")))))
    ≡ severity_text severity ++ (place_text (Some place) ++ string_start (codes "message"))
place_joined severity place middle file row column verbatim is file_is row_is column_is =
    let column_text = print (json_tokens (number_value column)) in
    ap₂ (λ (f : List ℕ) (r : ℕ). middle ++ (f ++ (34 ∷ (codes ",\"row\":" ++ (decimal r ++ (codes ",\"column\":"
    ++ (column_text ++ codes ",\"message\":\""))))))) file_is row_is
    ∙ ap (λ (l : List ℕ). l ++ (place.file ++ (34 ∷ (codes ",\"row\":" ++ (decimal place.row ++ (codes ",\"column\":"
    ++ (column_text ++ codes ",\"message\":\""))))))) is
    ∙ placed (severity_text severity) (string_start (codes "file")) place.file (codes ",\"row\":") (decimal place.row)
    (codes ",\"column\":") column_text (codes ",\"message\":\"")
    ∙ ap (λ (l : List ℕ). severity_text severity
    ++ ((l ++ ((codes ",\"row\":" ++ (decimal place.row ++ (codes ",\"column\":" ++ [])))
    ++ column_text)) ++ codes ",\"message\":\"")) (member_with (codes "file") (string_start (codes "file")) place.file refl verbatim)
    ∙ ap (λ (n : Option ℕ). severity_text severity ++ ((comma_fields (bytes_fields (codes "file") place.file)
    ++ ((codes ",\"row\":" ++ (decimal place.row ++ (codes ",\"column\":" ++ [])))
    ++ print (json_tokens (number_value n)))) ++ codes ",\"message\":\"")) column_is
    ∙ ap (λ (l : List ℕ). severity_text severity ++ (l ++ codes ",\"message\":\"")) (place_parts place)
    ∙ ap (λ (l : List ℕ). severity_text severity ++ (place_text (Some place) ++ l)) message_start
  where
    placed : (s f file r n c col m : List ℕ)
        → (s ++ f) ++ (file ++ (34 ∷ (r ++ (n ++ (c ++ (col ++ m))))))
        ≡ s ++ (((f ++ (file ++ 34 ∷ [])) ++ ((r ++ (n ++ (c ++ []))) ++ col)) ++ m)
    placed s f file r n c col m = simp (append_assoc, append-nil)

-- ---- the back

module _ (value : DiagnosticValue) (nth : ℕ) (new : Option Bool) (end : List ℕ) (ends : end ≡ end_text new)
    (verbatim_key : IsVerbatim value.key) (message key : List ℕ) (message_is : message ≡ value.message) (key_is : key ≡ value.key) where
  back_without : value.flag ≡ None
      → message ++ (codes "\",\"flag\":null,\"key\":\"" ++ (key ++ (codes "\",\"nth\":" ++ (decimal nth ++ (end ++ [])))))
      ≡ diagnostic_back value nth new
  back_without none =
      ap₂ (λ (m k : List ℕ). m ++ (codes "\",\"flag\":null,\"key\":\"" ++ (k ++ (codes "\",\"nth\":" ++ (decimal nth ++ (end ++ []))))))
      message_is key_is
      ∙ backed value.message (codes ",\"flag\":null") (codes ",\"key\":\"") value.key (codes ",\"nth\":" ++ (decimal nth ++ (end ++ [])))
      ∙ ap (λ (l : List ℕ). value.message ++ (34 ∷ (codes ",\"flag\":null" ++ (l ++ (codes ",\"nth\":" ++ (decimal nth ++ (end ++ [])))))))
      (member_with (codes "key") (codes ",\"key\":\"") value.key key_start verbatim_key)
      ∙ ap (λ (l : List ℕ). value.message ++ (34 ∷ (codes ",\"flag\":null" ++ (comma_fields (bytes_fields (codes "key") value.key) ++ l))))
      (last_is nth new end ends)
      ∙ ap (λ (l : List ℕ). value.message ++ (34 ∷ (l ++ (comma_fields (bytes_fields (codes "key") value.key) ++ last_text nth new))))
      (no_flag ∙ ap (λ (flag : Option (List ℕ)). comma_fields (optional_bytes_fields (codes "flag") flag)) (sym none))
    where
      backed : (m f k key n : List ℕ) → m ++ (34 ∷ ((f ++ k) ++ (key ++ (34 ∷ n)))) ≡ m ++ (34 ∷ (f ++ ((k ++ (key ++ 34 ∷ [])) ++ n)))
      backed m f k key n = simp append_assoc

  back_with : (flag : List ℕ) → value.flag ≡ Some flag → IsVerbatim flag
      → message ++ (codes "\",\"flag\":\"" ++ (flag ++ (codes "\",\"key\":\"" ++ (key
      ++ (codes "\",\"nth\":" ++ (decimal nth ++ (end ++ [])))))))
      ≡ diagnostic_back value nth new
  back_with flag some verbatim =
      ap₂ (λ (m k : List ℕ). m ++ (codes "\",\"flag\":\"" ++ (flag ++ (codes "\",\"key\":\"" ++ (k
      ++ (codes "\",\"nth\":" ++ (decimal nth ++ (end ++ [])))))))) message_is key_is
      ∙ backed value.message (codes ",\"flag\":\"") flag (codes ",\"key\":\"") value.key (codes ",\"nth\":" ++ (decimal nth ++ (end ++ [])))
      ∙ ap (λ (l : List ℕ). value.message ++ (34 ∷ ((codes ",\"flag\":\"" ++ (flag ++ 34 ∷ [])) ++ (l
      ++ (codes ",\"nth\":" ++ (decimal nth ++ (end ++ [])))))))
      (member_with (codes "key") (codes ",\"key\":\"") value.key key_start verbatim_key)
      ∙ ap (λ (l : List ℕ). value.message ++ (34 ∷ ((codes ",\"flag\":\"" ++ (flag ++ 34 ∷ []))
      ++ (comma_fields (bytes_fields (codes "key") value.key) ++ l))))
      (last_is nth new end ends)
      ∙ ap (λ (l : List ℕ). value.message ++ (34 ∷ (l ++ (comma_fields (bytes_fields (codes "key") value.key) ++ last_text nth new))))
      (member_with (codes "flag") (codes ",\"flag\":\"") flag flag_start verbatim
      ∙ ap (λ (one : Option (List ℕ)). comma_fields (optional_bytes_fields (codes "flag") one)) (sym some))
    where
      backed : (m f flag k key n : List ℕ) → m ++ (34 ∷ (f ++ (flag ++ (34 ∷ (k ++ (key ++ (34 ∷ n)))))))
          ≡ m ++ (34 ∷ ((f ++ (flag ++ 34 ∷ [])) ++ ((k ++ (key ++ 34 ∷ [])) ++ n)))
      backed m f flag k key n = simp append_assoc

-- The strings and what follows them.
back_parts : (value : DiagnosticValue) (nth : ℕ) (new : Option Bool) → IsVerbatimDiagnostic value
    → strings_text value ++ number_text nth new ≡ diagnostic_back value nth new
back_parts value nth new verbatim = by value.flag refl verbatim.flag
  where
    without : (m f k n d e : List ℕ) → (m ++ (f ++ k)) ++ (n ++ (d ++ e)) ≡ m ++ (f ++ (k ++ (n ++ (d ++ (e ++ [])))))
    without m f k n d e = simp (append_assoc, append-nil)

    with : (m f g h k n d e : List ℕ)
        → (m ++ ((f ++ (g ++ h)) ++ k)) ++ (n ++ (d ++ e)) ≡ m ++ (f ++ (g ++ (h ++ (k ++ (n ++ (d ++ (e ++ [])))))))
    with m f g h k n d e = simp (append_assoc, append-nil)

    by : (flag : Option (List ℕ)) → value.flag ≡ flag → IfSome flag IsVerbatim
        → strings_text value ++ number_text nth new ≡ diagnostic_back value nth new
    by None is plain =
        ap (λ (flag : Option (List ℕ)). (value.message ++ (flag_text flag ++ value.key)) ++ number_text nth new) is
        ∙ without value.message (codes "\",\"flag\":null,\"key\":\"") value.key (codes "\",\"nth\":") (decimal nth) (end_text new)
        ∙ back_without value nth new (end_text new) refl verbatim.key value.message value.key refl refl is
    by (Some flag) is plain =
        ap (λ (flag : Option (List ℕ)). (value.message ++ (flag_text flag ++ value.key)) ++ number_text nth new) is
        ∙ with value.message (codes "\",\"flag\":\"") flag (codes "\",\"key\":\"") value.key (codes "\",\"nth\":") (decimal nth)
        (end_text new)
        ∙ back_with value nth new (end_text new) refl verbatim.key value.message value.key refl refl flag is plain

-- ---- front and back

verbatim_parts : (one : LogDiagnostic) (new : Option Bool) (is_first : Bool) → IsVerbatim one.value.message
    → diagnostic_front is_first one.line one.value ++ diagnostic_back one.value one.nth new ≡ diagnostic_text is_first (one, new)
verbatim_parts one new is_first message =
    let value = one.value in
    let flag = comma_fields (optional_bytes_fields (codes "flag") value.flag) in
    let key = comma_fields (bytes_fields (codes "key") value.key) in
    joined (comma_if is_first) (codes "{\"line\":") (decimal one.line) (severity_text value.severity) (place_text value.place)
    (string_start (codes "message")) value.message (flag ++ (key ++ last_text one.nth new))
    ∙ ap (λ (l : List ℕ). (comma_if is_first ++ (codes "{\"line\":" ++ (decimal one.line ++ [])))
    ++ (severity_text value.severity ++ (place_text value.place ++ (l ++ (flag ++ (key ++ last_text one.nth new))))))
    (member_with (codes "message") (string_start (codes "message")) value.message refl message)
    ∙ diagnostic_parts one new is_first
  where
    joined : (a b c d e f m x : List ℕ) → (a ++ (b ++ (c ++ (d ++ (e ++ f))))) ++ (m ++ (34 ∷ x))
        ≡ (a ++ (b ++ (c ++ []))) ++ (d ++ (e ++ ((f ++ (m ++ 34 ∷ [])) ++ x)))
    joined a b c d e f m x = simp (append_assoc, append-nil)

-- A joined object: the front, the strings, and what follows them.
pub joined_object : (one : LogDiagnostic) (new : Option Bool) (is_first : Bool) → IsVerbatimDiagnostic one.value
    → diagnostic_front is_first one.line one.value ++ (strings_text one.value ++ number_text one.nth new)
    ≡ diagnostic_text is_first (one, new)
joined_object one new is_first verbatim =
    ap (λ (l : List ℕ). diagnostic_front is_first one.line one.value ++ l) (back_parts one.value one.nth new verbatim)
    ∙ verbatim_parts one new is_first verbatim.message
