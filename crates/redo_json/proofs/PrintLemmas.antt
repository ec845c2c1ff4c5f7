-- How objects and arrays are printed.
use Rattle.std.proofs.Common.{◌≡◌, ℕ, Bool, true, false, List, [], ◌∷◌, ◌++◌, refl, sym, ap, ◌∙◌, append_assoc}
use Rattle.std.specs.Prelude.{fold}
use Rattle.std.proofs.lemmas.List.{append-nil}
use Rattle.json.specs.Token.{Token}
use Rattle.json.specs.Json.{Json, Items, Members, array, boolean, item, member, no_items, no_members, null, number, object, string}
use Rattle.json.specs.Print.{ends, print, print_from, quoted}
use Rattle.json.specs.Tree.{items_tokens, json_tokens, members_tokens}
use Rattle.json.proofs.Printed.Tokens.{print_from-append}
use Rattle.redo_json.specs.Fields.{Field, members_of, object_with, strings}
use Rattle.redo_json.specs.Text.{text_of}
use Rattle.redo_json.specs.Private.Parts.{comma_field, comma_fields, field_text, items_text}

-- Whether a value was printed last.
abbrev last : Bool → List Token → Bool
last before tokens = fold (λ _ t. ends t) before tokens

last-append : (before : Bool) (ts us : List Token) → last before (ts ++ us) ≡ last (last before ts) us
last-append before [] us = refl
last-append before (t ∷ ts) us = last-append (ends t) ts us

mutual
  json_ends : (json : Json) (before : Bool) → last before (json_tokens json) ≡ true
  json_ends null before = refl
  json_ends (boolean b) before = refl
  json_ends (number s) before = refl
  json_ends (string s) before = refl
  json_ends (array items) before = items_end items false
  json_ends (object members) before = members_end members false

  items_end : (items : Items) (before : Bool) → last before (items_tokens items) ≡ true
  items_end no_items before = refl
  items_end (item json others) before =
      last-append before (json_tokens json) (items_tokens others) ∙ items_end others (last before (json_tokens json))

  members_end : (members : Members) (before : Bool) → last before (members_tokens members) ≡ true
  members_end no_members before = refl
  members_end (member name json others) before =
      last-append false (json_tokens json) (members_tokens others) ∙ members_end others (last false (json_tokens json))

-- A value, and what is printed after it.
pub value_then : (json : Json) (tokens : List Token)
    → print_from false (json_tokens json ++ tokens) ≡ print (json_tokens json) ++ print_from true tokens
value_then json tokens =
    print_from-append false (json_tokens json) tokens
    ∙ ap (λ (b : Bool). print (json_tokens json) ++ print_from b tokens) (json_ends json false)

pub print_string : (text : List ℕ) → print (json_tokens (string text)) ≡ quoted text
unfolding print_from
print_string text = append-nil (quoted text)

pub print_null : print (json_tokens null) ≡ 110 ∷ 117 ∷ 108 ∷ 108 ∷ []
unfolding print_from
print_null = refl

pub print_number : (text : List ℕ) → print (json_tokens (number text)) ≡ text
unfolding print_from
print_number text = append-nil text

-- A member, and what is printed after it.
member_then : (before : List ℕ) (one : Field) (tokens : List Token)
    → before ++ ((quoted one.name ++ 58 ∷ []) ++ print_from false (json_tokens one.value ++ tokens))
    ≡ (before ++ field_text one) ++ print_from true tokens
member_then before one tokens =
    ap (λ (l : List ℕ). before ++ l)
    (append_assoc (quoted one.name) (58 ∷ []) _
    ∙ ap (λ (l : List ℕ). quoted one.name ++ 58 ∷ l) (value_then one.value tokens)
    ∙ sym (append_assoc (quoted one.name) (58 ∷ print (json_tokens one.value)) (print_from true tokens)))
    ∙ sym (append_assoc before (field_text one) (print_from true tokens))

-- The members after another one, and the end of the object.
other_members : (fields : List Field) → print_from true (members_tokens (members_of fields)) ≡ comma_fields fields ++ 125 ∷ []
unfolding print_from
other_members [] = refl
other_members (one ∷ others) =
    member_then (44 ∷ []) one (members_tokens (members_of others))
    ∙ ap (λ (l : List ℕ). comma_field one ++ l) (other_members others)
    ∙ sym (append_assoc (comma_field one) (comma_fields others) (125 ∷ []))

pub print_object : (one : Field) (others : List Field)
    → print (json_tokens (object_with (one ∷ others))) ≡ 123 ∷ (field_text one ++ (comma_fields others ++ 125 ∷ []))
unfolding print_from
print_object one others =
    ap (λ (l : List ℕ). 123 ∷ l)
    (member_then [] one (members_tokens (members_of others)) ∙ ap (λ (l : List ℕ). field_text one ++ l) (other_members others))

other_items : (list : List (List ℕ)) → print_from true (items_tokens (strings list)) ≡ items_text false list ++ 93 ∷ []
unfolding print_from
other_items [] = refl
other_items (bytes ∷ others) =
    ap (λ (l : List ℕ). 44 ∷ (quoted (text_of bytes) ++ l)) (other_items others)
    ∙ ap (λ (l : List ℕ). 44 ∷ l) (sym (append_assoc (quoted (text_of bytes)) (items_text false others) (93 ∷ [])))

pub print_list : (list : List (List ℕ)) → print (json_tokens (array (strings list))) ≡ 91 ∷ (items_text true list ++ 93 ∷ [])
unfolding print_from
print_list [] = refl
print_list (bytes ∷ others) =
    ap (λ (l : List ℕ). 91 ∷ (quoted (text_of bytes) ++ l)) (other_items others)
    ∙ ap (λ (l : List ℕ). 91 ∷ l) (sym (append_assoc (quoted (text_of bytes)) (items_text false others) (93 ∷ [])))
