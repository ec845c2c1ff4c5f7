-- Members of objects in parts.
use Rattle.std.proofs.Common.{◌≡◌, ℕ, zero, suc, ◌+◌, ◌<◌, ◌≤◌, Bool, true, false, List, [], ◌∷◌, ◌++◌, None, Some, length, take, drop, get_or, map, Bor, IsUtf8, refl, sym, ap, ◌∙◌, arith, append_assoc, inl, inr, ◌↔◌, IsTrue, true≢false}
use Rattle.std.specs.Prelude.{◌==◌, codes, decimal, encode_utf8_all, if◌then◌else◌}
use Rattle.std.specs.List.{flat_map}
use Rattle.std.specs.Str.{is_utf8}
use Rattle.std.proofs.lemmas.Bool.{cases_Bool, ne_eqb}
use Rattle.std.proofs.lemmas.List.{append-nil, drop_all, drop_more, get_or-map}
use Rattle.std.proofs.lemmas.Str.{IsUtf8-from_is_utf8, is_utf8-from_IsUtf8}
use Rattle.json.specs.Json.{Json, array, null, number, string}
use Rattle.json.specs.Print.{escape, escape_byte, print, quoted}
use Rattle.json.specs.Tree.{json_tokens}
use Rattle.bstr.specs.Utf8.{lossy_chars}
use Rattle.redo_json.specs.Fields.{Field, bytes_fields, exact_fields, exact_items, exact_list, exact_name, field, object_with, strings}
use Rattle.redo_json.specs.Text.{base64_of, exact_of, text_of}
use Rattle.redo_json.specs.Private.Parts.{IsNextExact, comma_field, comma_fields, exact_item, field_text, item_text, items_text, string_start}
use Rattle.redo_json.proofs.EscapeLemmas.{escape-append}
use Rattle.redo_json.proofs.PrintLemmas.{print_list, print_null, print_number, print_object, print_string}

-- The parts before one, that one, and those after it.
pub one_of : {X : Type 0} (f : X → List ℕ) (xs : List X) (i : ℕ) (d : X) → i < length xs
    → (flat_map f (take i xs) ++ f (get_or xs i d)) ++ flat_map f (drop (suc i) xs) ≡ flat_map f xs
one_of f [] i d below = absurd (omega (arith, below))
one_of f (x ∷ xs) zero d below = refl
one_of f (x ∷ xs) (suc i) d below =
    let front = flat_map f (take i xs) in
    let one = f (get_or xs i d) in
    let behind = flat_map f (drop (suc i) xs) in
    ap (λ (t : List ℕ). t ++ behind) (append_assoc (f x) front one) ∙ append_assoc (f x) (front ++ one) behind
    ∙ ap (λ (t : List ℕ). f x ++ t) (one_of f xs i d (omega (arith, below)))

-- Whether bytes are UTF-8, as a test.
pub test_is : (test : Bool) (bytes : List ℕ) → IsTrue test ↔ IsUtf8 bytes → test ≡ is_utf8 bytes
test_is true bytes same = sym (is_utf8-from_IsUtf8 bytes (same.0 refl))
test_is false bytes same = elim (cases_Bool (is_utf8 bytes)) [
  | inl utf8 ↦ absurd (true≢false (sym (same.1 (IsUtf8-from_is_utf8 bytes utf8))))
  | inr other ↦ sym other
]

-- ---- a member

named_text : (name value : List ℕ) (json : Json) → print (json_tokens json) ≡ value
    → 34 ∷ (escape name ++ (34 ∷ 58 ∷ value)) ≡ field_text (field name json)
named_text name value json is =
    ap (λ (l : List ℕ). 34 ∷ (escape name ++ (34 ∷ 58 ∷ l))) (sym is)
    ∙ ap (λ (l : List ℕ). 34 ∷ l) (sym (append_assoc (escape name) (34 ∷ []) (58 ∷ print (json_tokens json))))

named : (name value : List ℕ) (json : Json) → print (json_tokens json) ≡ value
    → 44 ∷ 34 ∷ (escape name ++ (34 ∷ 58 ∷ value)) ≡ comma_field (field name json)
named name value json is = ap (λ (l : List ℕ). 44 ∷ l) (named_text name value json is)

pub named_string : (name text : List ℕ)
    → 44 ∷ 34 ∷ (escape name ++ (34 ∷ 58 ∷ (quoted text ++ []))) ≡ comma_field (field name (string text))
named_string name text = named name (quoted text ++ []) (string text) (print_string text ∙ sym (append-nil (quoted text)))

pub named_number : (name text : List ℕ)
    → 44 ∷ 34 ∷ (escape name ++ (34 ∷ 58 ∷ (text ++ []))) ≡ comma_field (field name (number text))
named_number name text = named name (text ++ []) (number text) (print_number text ∙ sym (append-nil text))

pub named_null : (name : List ℕ)
    → 44 ∷ 34 ∷ (escape name ++ (34 ∷ 58 ∷ 110 ∷ 117 ∷ 108 ∷ 108 ∷ [])) ≡ comma_field (field name null)
named_null name = named name (110 ∷ 117 ∷ 108 ∷ 108 ∷ []) null print_null

exact_suffix : escape (codes "_base64") ≡ codes "_base64"
unfolding escape_byte
exact_suffix = refl

escape_exact : (name rest : List ℕ) → escape name ++ (codes "_base64" ++ rest) ≡ escape (exact_name name) ++ rest
escape_exact name rest =
    sym (append_assoc (escape name) (codes "_base64") rest)
    ∙ ap (λ (l : List ℕ). l ++ rest)
    (ap (λ (l : List ℕ). escape name ++ l) (sym exact_suffix) ∙ sym (escape-append name (codes "_base64")))

pub named_exact : (name text : List ℕ)
    → 44 ∷ 34 ∷ (escape name ++ (codes "_base64\":" ++ (quoted text ++ []))) ≡ comma_field (field (exact_name name) (string text))
named_exact name text =
    ap (λ (l : List ℕ). 44 ∷ 34 ∷ l) (escape_exact name (34 ∷ 58 ∷ (quoted text ++ []))) ∙ named_string (exact_name name) text

-- ---- exact bytes

pub no_exact : (name bytes : List ℕ) → is_utf8 bytes ≡ true → exact_fields name (exact_of bytes) ≡ []
no_exact name bytes is = ap (λ (test : Bool). exact_fields name (if test then None else Some (base64_of bytes))) is

pub one_exact : (name bytes : List ℕ) → is_utf8 bytes ≡ false
    → exact_fields name (exact_of bytes) ≡ field name (string (base64_of bytes)) ∷ []
one_exact name bytes is = ap (λ (test : Bool). exact_fields name (if test then None else Some (base64_of bytes))) is

pub text_is : (bytes : List ℕ) → is_utf8 bytes ≡ true → text_of bytes ≡ bytes
text_is bytes is = ap (λ (test : Bool). if test then bytes else encode_utf8_all (lossy_chars bytes)) is

-- A member with UTF-8 has no exact bytes beside it.
pub text_member : (name bytes : List ℕ) → is_utf8 bytes ≡ true
    → 44 ∷ 34 ∷ (escape name ++ (34 ∷ 58 ∷ 34 ∷ (escape bytes ++ 34 ∷ []))) ≡ comma_fields (bytes_fields name bytes)
text_member name bytes is =
    named name (quoted bytes) (string bytes) (print_string bytes)
    ∙ ap (λ (text : List ℕ). comma_field (field name (string text))) (sym (text_is bytes is))
    ∙ sym (append-nil (comma_field (field name (string (text_of bytes)))))
    ∙ ap (λ (fields : List Field). comma_field (field name (string (text_of bytes))) ++ comma_fields fields)
    (sym (no_exact (exact_name name) bytes is))

-- The same, from what the member has before the text.
pub text_member_from : (name start bytes : List ℕ) → start ≡ string_start name → is_utf8 bytes ≡ true
    → start ++ (escape bytes ++ 34 ∷ []) ≡ comma_fields (bytes_fields name bytes)
text_member_from name start bytes starts is =
    ap (λ (l : List ℕ). l ++ (escape bytes ++ 34 ∷ [])) starts
    ∙ ap (λ (l : List ℕ). 44 ∷ 34 ∷ l) (append_assoc (escape name) (34 ∷ 58 ∷ 34 ∷ []) (escape bytes ++ 34 ∷ []))
    ∙ text_member name bytes is

pub exact_member : (name bytes : List ℕ) → is_utf8 bytes ≡ false
    → 44 ∷ 34 ∷ (escape name ++ (codes "_base64\":" ++ (quoted (base64_of bytes) ++ [])))
    ≡ comma_fields (exact_fields (exact_name name) (exact_of bytes))
exact_member name bytes is =
    named_exact name (base64_of bytes) ∙ sym (append-nil (comma_field (field (exact_name name) (string (base64_of bytes)))))
    ∙ ap comma_fields (sym (one_exact (exact_name name) bytes is))

pub numbered_exact : (position : ℕ) (bytes : List ℕ)
    → 34 ∷ (escape (decimal position) ++ (34 ∷ 58 ∷ (quoted (base64_of bytes) ++ []))) ≡ exact_item position bytes
numbered_exact position bytes =
    named_text (decimal position) (quoted (base64_of bytes) ++ []) (string (base64_of bytes))
    (print_string (base64_of bytes) ∙ sym (append-nil (quoted (base64_of bytes))))

-- ---- lists

-- An item of a list of borrowed bytes.
pub item_at : (list : List (Bor (List ℕ))) (at : ℕ) (other : Bor (List ℕ)) → at < length list
    → get_or (map (λ (bytes : Bor (List ℕ)). bytes.now) list) at [] ≡ (get_or list at other).now
item_at list at other below = get_or-map (λ (bytes : Bor (List ℕ)). bytes.now) list at other [] below

pub items_step : (list : List (List ℕ)) (at : ℕ) → at < length list
    → items_text (at == 0) (drop at list) ≡ item_text (at == 0) (get_or list at []) ++ items_text (at + 1 == 0) (drop (at + 1) list)
items_step list at below =
    ap (items_text (at == 0)) (drop_more list at [] below)
    ∙ ap (λ (b : Bool). item_text (at == 0) (get_or list at []) ++ items_text b (drop (at + 1) list))
    (sym (ne_eqb (at + 1) 0 (λ e. omega arith)))

pub items_end : (is_first : Bool) (list : List (List ℕ)) (at : ℕ) → length list ≤ at → items_text is_first (drop at list) ≡ []
items_end is_first list at past = ap (items_text is_first) (drop_all at list past)

-- The text of the next item, after the quote that ends another string.
pub text_step : (bytes : List ℕ) (others : List (List ℕ))
    → 34 ∷ items_text false (bytes ∷ others) ≡ (34 ∷ 44 ∷ 34 ∷ []) ++ (escape (text_of bytes) ++ 34 ∷ items_text false others)
text_step bytes others =
    ap (λ (l : List ℕ). 34 ∷ 44 ∷ 34 ∷ l) (append_assoc (escape (text_of bytes)) (34 ∷ []) (items_text false others))

pub first_text : (bytes : List ℕ) (others : List (List ℕ))
    → items_text true (bytes ∷ others) ≡ (34 ∷ []) ++ (escape (text_of bytes) ++ 34 ∷ items_text false others)
first_text bytes others = ap (λ (l : List ℕ). 34 ∷ l) (append_assoc (escape (text_of bytes)) (34 ∷ []) (items_text false others))

pub list_parts : (name exact : List ℕ) (list : List (List ℕ))
    → (44 ∷ 34 ∷ (escape name ++ (34 ∷ 58 ∷ 91 ∷ []))) ++ (items_text true list ++ ((93 ∷ []) ++ exact))
    ≡ comma_field (field name (array (strings list))) ++ exact
list_parts name exact list =
    let items = items_text true list in
    ap (λ (l : List ℕ). 44 ∷ 34 ∷ l)
    (append_assoc (escape name) (34 ∷ 58 ∷ 91 ∷ []) (items ++ 93 ∷ exact)
    ∙ ap (λ (l : List ℕ). escape name ++ (34 ∷ 58 ∷ 91 ∷ l)) (sym (append_assoc items (93 ∷ []) exact))
    ∙ sym (append_assoc (escape name) (34 ∷ 58 ∷ 91 ∷ (items ++ 93 ∷ [])) exact))
    ∙ ap (λ (l : List ℕ). l ++ exact) (named name (91 ∷ (items ++ 93 ∷ [])) (array (strings list)) (print_list list))

pub exact_parts : (name : List ℕ) (one : Field) (others : List Field)
    → (44 ∷ 34 ∷ (escape name ++ codes "_base64\":{")) ++ (field_text one ++ (comma_fields others ++ 125 ∷ []))
    ≡ comma_fields (exact_list (exact_name name) (one ∷ others))
exact_parts name one others =
    let members = field_text one ++ (comma_fields others ++ 125 ∷ []) in
    ap (λ (l : List ℕ). 44 ∷ 34 ∷ l)
    (append_assoc (escape name) (codes "_base64\":{") members ∙ escape_exact name (34 ∷ 58 ∷ 123 ∷ members))
    ∙ named (exact_name name) (123 ∷ members) (object_with (one ∷ others)) (print_object one others)
    ∙ sym (append-nil (comma_field (field (exact_name name) (object_with (one ∷ others)))))

-- ---- items with exact bytes

exact_at : (list : List (List ℕ)) (at : ℕ) → at < length list
    → exact_items at (drop at list)
    ≡ exact_fields (decimal at) (exact_of (get_or list at [])) ++ exact_items (at + 1) (drop (at + 1) list)
exact_at list at below =
    let next : suc at ≡ at + 1 = omega arith in
    ap (exact_items at) (drop_more list at [] below)
    ∙ ap (λ (n : ℕ). exact_fields (decimal at) (exact_of (get_or list at [])) ++ exact_items n (drop (at + 1) list)) next

pub skip_item : (list : List (List ℕ)) (at : ℕ) → at < length list → is_utf8 (get_or list at []) ≡ true
    → exact_items at (drop at list) ≡ exact_items (at + 1) (drop (at + 1) list)
skip_item list at below is =
    exact_at list at below
    ∙ ap (λ (fields : List Field). fields ++ exact_items (at + 1) (drop (at + 1) list)) (no_exact (decimal at) (get_or list at []) is)

pub found_item : (list : List (List ℕ)) (from at : ℕ) → at < length list → from ≤ at → is_utf8 (get_or list at []) ≡ false
    → exact_items from (drop from list) ≡ exact_items at (drop at list) → IsNextExact list from at
found_item list from at below after is same = record {
  within = below;
  not_before = after;
  fields = same ∙ exact_at list at below
      ∙ ap (λ (fields : List Field). fields ++ exact_items (at + 1) (drop (at + 1) list)) (one_exact (decimal at) (get_or list at []) is);
}

pub no_more_items : (list : List (List ℕ)) (at : ℕ) → length list ≤ at → exact_items at (drop at list) ≡ []
no_more_items list at past = ap (exact_items at) (drop_all at list past)

pub next_items : (list : List (List ℕ)) (from at : ℕ) → IsNextExact list from at
    → comma_fields (exact_items from (drop from list))
    ≡ 44 ∷ (exact_item at (get_or list at []) ++ comma_fields (exact_items (at + 1) (drop (at + 1) list)))
next_items list from at next = ap comma_fields next.fields

-- A list with exact bytes.
pub exact_list_parts : (name : List ℕ) (list : List (List ℕ)) (at : ℕ) → IsNextExact list 0 at
    → (44 ∷ 34 ∷ (escape name ++ codes "_base64\":{"))
    ++ (exact_item at (get_or list at []) ++ (comma_fields (exact_items (at + 1) (drop (at + 1) list)) ++ 125 ∷ []))
    ≡ comma_fields (exact_list (exact_name name) (exact_items 0 list))
exact_list_parts name list at next =
    exact_parts name (field (decimal at) (string (base64_of (get_or list at [])))) (exact_items (at + 1) (drop (at + 1) list))
    ∙ ap (λ (fields : List Field). comma_fields (exact_list (exact_name name) fields)) (sym next.fields)
