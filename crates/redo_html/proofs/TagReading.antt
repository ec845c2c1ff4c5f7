-- How a tag with attributes is read: its name, the names of its attributes, and their values.
use Rattle.std.proofs.Common.{◌≡◌, ℕ, ◌+◌, ◌/◌, ◌%◌, Bool, true, false, List, [], ◌∷◌, ◌++◌, ◌<◌, map, refl, sym, ◌∙◌, ap, arith, ⊎_elim}
use Rattle.std.specs.Prelude.{◌==◌, ◌||◌, ◌&&◌, not, nat_lt, nat_le, codes}
use Rattle.std.specs.List.{flat_map, list_all}
use Rattle.std.proofs.lemmas.Bool.{agree_below_at, and_parts, and_from, leb-true, lt-ltb, ltb-true, ne_eqb, not-true, or_cases, or_parts}
use Rattle.std.proofs.lemmas.List.{append_assoc, append-nil}
use Rattle.redo_html.specs.Chart.{Attribute, Value, attribute_text, last_digit, percent_text, tag_text, value_text}
use Rattle.redo_html.specs.Chart.Value.{Fixed, Number, Percent}
use Rattle.redo_html.specs.Html.{Context, State, Token, AfterAttributeValue, AttributeName, AttributeValue, BeforeAttributeName, EndTagOpen, TagName, TagOpen, attribute_name, attribute_names, attribute_names_in, emit_tag, is_digit, is_lower_letter, read_from, start_name}
use Rattle.redo_html.specs.Shown.{number_text}
use Rattle.redo_html.proofs.TextReading.{all_append, all_weaker, number_digits}

-- ---- bytes of names and values

abbrev pub is_low : ℕ → Bool
is_low byte = nat_lt byte 128

abbrev pub is_value_byte : ℕ → Bool
is_value_byte byte = is_low byte && not (byte == 34 || byte == 38 || byte == 0 || byte == 13)

abbrev pub is_name_byte : ℕ → Bool
is_name_byte byte = is_low byte && (not (byte == 62 || byte == 32 || byte == 61) && (is_lower_letter byte || is_digit byte || byte == 45))

-- A name that begins with a letter.
abbrev pub is_attribute_name : List ℕ → Bool
is_attribute_name [] = false
is_attribute_name (byte ∷ bytes) = is_lower_letter byte && list_all is_name_byte (byte ∷ bytes)

abbrev pub is_element_byte : ℕ → Bool
is_element_byte byte = is_low byte && (not (byte == 62 || byte == 32) && (is_lower_letter byte || is_digit byte))

abbrev pub is_first_byte : ℕ → Bool
is_first_byte byte = not (byte == 47 || byte == 33) && is_lower_letter byte

abbrev pub is_element : List ℕ → Bool
is_element [] = false
is_element (byte ∷ bytes) = is_first_byte byte && list_all is_element_byte (byte ∷ bytes)

value_byte_read : (context : Context) (byte : ℕ) (tag behind : List ℕ) → is_value_byte byte ≡ true
    → read_from (AttributeValue context tag) (byte ∷ behind) ≡ read_from (AttributeValue context (tag ++ byte ∷ [])) behind
value_byte_read context byte tag behind is =
    let four = or_parts (byte == 34 || byte == 38 || byte == 0) (byte == 13)
    (not-true _ (and_parts (is_low byte) (not (byte == 34 || byte == 38 || byte == 0 || byte == 13)) is).1) in
    let three = or_parts (byte == 34 || byte == 38) (byte == 0) four.0 in
    let two = or_parts (byte == 34) (byte == 38) three.0 in
    let cr = four.1 in
    let nul = three.1 in
    let quote = two.0 in
    let amp = two.1 in
    rw (quote, amp, nul, cr) refl

pub value_read : (context : Context) (value tag behind : List ℕ) → list_all is_value_byte value ≡ true
    → read_from (AttributeValue context tag) (value ++ behind) ≡ read_from (AttributeValue context (tag ++ value)) behind
value_read context [] tag behind are = ap (λ t. read_from (AttributeValue context t) behind) (sym (append-nil tag))
value_read context (byte ∷ value) tag behind are =
    let parts = and_parts (is_value_byte byte) (list_all is_value_byte value) are in
    value_byte_read context byte tag (value ++ behind) parts.0 ∙ value_read context value (tag ++ byte ∷ []) behind parts.1
    ∙ ap (λ t. read_from (AttributeValue context t) behind) (append_assoc tag (byte ∷ []) value)

name_byte_read : (context : Context) (byte : ℕ) (tag behind : List ℕ) → is_name_byte byte ≡ true
    → read_from (AttributeName context tag) (byte ∷ behind) ≡ read_from (AttributeName context (tag ++ byte ∷ [])) behind
name_byte_read context byte tag behind is =
    let parts = and_parts (not (byte == 62 || byte == 32 || byte == 61)) (is_lower_letter byte || is_digit byte || byte == 45)
    (and_parts (is_low byte) _ is).1 in
    let three = or_parts (byte == 62 || byte == 32) (byte == 61) (not-true _ parts.0) in
    let two = or_parts (byte == 62) (byte == 32) three.0 in
    let gt = two.0 in
    let space = two.1 in
    let equals = three.1 in
    let name = parts.1 in
    rw (gt, space, equals, name) refl

name_read : (context : Context) (name tag behind : List ℕ) → list_all is_name_byte name ≡ true
    → read_from (AttributeName context tag) (name ++ behind) ≡ read_from (AttributeName context (tag ++ name)) behind
name_read context [] tag behind are = ap (λ t. read_from (AttributeName context t) behind) (sym (append-nil tag))
name_read context (byte ∷ name) tag behind are =
    let parts = and_parts (is_name_byte byte) (list_all is_name_byte name) are in
    name_byte_read context byte tag (name ++ behind) parts.0 ∙ name_read context name (tag ++ byte ∷ []) behind parts.1
    ∙ ap (λ t. read_from (AttributeName context t) behind) (append_assoc tag (byte ∷ []) name)

element_byte_read : (context : Context) (byte : ℕ) (tag behind : List ℕ) → is_element_byte byte ≡ true
    → read_from (TagName context tag) (byte ∷ behind) ≡ read_from (TagName context (tag ++ byte ∷ [])) behind
element_byte_read context byte tag behind is =
    let parts = and_parts (not (byte == 62 || byte == 32)) (is_lower_letter byte || is_digit byte) (and_parts (is_low byte) _ is).1 in
    let two = or_parts (byte == 62) (byte == 32) (not-true _ parts.0) in
    let gt = two.0 in
    let space = two.1 in
    let name = parts.1 in
    rw (gt, space, name) refl

pub element_read : (context : Context) (name tag behind : List ℕ) → list_all is_element_byte name ≡ true
    → read_from (TagName context tag) (name ++ behind) ≡ read_from (TagName context (tag ++ name)) behind
element_read context [] tag behind are = ap (λ t. read_from (TagName context t) behind) (sym (append-nil tag))
element_read context (byte ∷ name) tag behind are =
    let parts = and_parts (is_element_byte byte) (list_all is_element_byte name) are in
    element_byte_read context byte tag (name ++ behind) parts.0 ∙ element_read context name (tag ++ byte ∷ []) behind parts.1
    ∙ ap (λ t. read_from (TagName context t) behind) (append_assoc tag (byte ∷ []) name)

-- ---- values

digit_value : (byte : ℕ) → is_digit byte ≡ true → is_value_byte byte ≡ true
digit_value byte is =
    let parts = and_parts (nat_le 48 byte) (nat_le byte 57) is in
    let low = leb-true 48 byte parts.0 in
    let high = leb-true byte 57 parts.1 in
    let below = lt-ltb byte 128 (omega (arith, high)) in
    let quote : (byte == 34) ≡ false = ne_eqb byte 34 (λ e. omega (arith, low, e)) in
    let amp : (byte == 38) ≡ false = ne_eqb byte 38 (λ e. omega (arith, low, e)) in
    let nul : (byte == 0) ≡ false = ne_eqb byte 0 (λ e. omega (arith, low, e)) in
    let cr : (byte == 13) ≡ false = ne_eqb byte 13 (λ e. omega (arith, low, e)) in
    rw (below, quote, amp, nul, cr) refl

pub number_value : (number : ℕ) → list_all is_value_byte (number_text number) ≡ true
number_value number = all_weaker is_digit is_value_byte digit_value (number_text number) (number_digits number)

last_digit_value : (number : ℕ) → is_value_byte (last_digit number) ≡ true
last_digit_value number = agree_below_at (λ d. is_value_byte (48 + d)) (λ d. true) 10 (number % 10) refl (omega arith)

percent_value : (hundredths : ℕ) → list_all is_value_byte (percent_text hundredths) ≡ true
percent_value hundredths =
    all_append is_value_byte (number_text (hundredths / 100)) (46 ∷ last_digit (hundredths / 10) ∷ last_digit hundredths ∷ 37 ∷ [])
    (number_value (hundredths / 100))
    (and_from true _ refl (and_from _ _ (last_digit_value (hundredths / 10)) (and_from _ _ (last_digit_value hundredths) refl)))

-- Text of the program in a value has no byte that would end it.
abbrev pub is_value : Value → Bool
is_value (Fixed text) = list_all is_value_byte text
is_value (Number number) = true
is_value (Percent hundredths) = true

value_bytes : (value : Value) → is_value value ≡ true → list_all is_value_byte (value_text value) ≡ true
value_bytes (Fixed text) is = is
value_bytes (Number number) is = number_value number
value_bytes (Percent hundredths) is = percent_value hundredths

pub values_bytes : (values : List Value) → list_all is_value values ≡ true → list_all is_value_byte (flat_map value_text values) ≡ true
values_bytes [] are = refl
values_bytes (value ∷ values) are =
    let parts = and_parts (is_value value) (list_all is_value values) are in
    all_append is_value_byte (value_text value) (flat_map value_text values) (value_bytes value parts.0) (values_bytes values parts.1)

abbrev pub is_attribute : Attribute → Bool
is_attribute attribute = is_attribute_name attribute.name && list_all is_value attribute.values

-- ---- attributes

-- `tag` was read in this state, up to the end of its name or of an attribute.
record ReadUpTo (context : Context) (tag : List ℕ) (state : State) : Type 0 where
  space : (rest : List ℕ) → read_from state (32 ∷ rest) ≡ read_from (BeforeAttributeName context (tag ++ 32 ∷ [])) rest
  ends : (rest : List ℕ) → read_from state (62 ∷ rest) ≡ (emit_tag context tag).1 ++ read_from (emit_tag context tag).0 rest

attribute_bytes : (name value rest : List ℕ)
    → (codes " " ++ (name ++ (codes "=\"" ++ (value ++ codes "\"")))) ++ rest ≡ 32 ∷ (name ++ 61 ∷ 34 ∷ (value ++ 34 ∷ rest))
attribute_bytes name value rest = simp append_assoc

attribute_tag : (tag name value : List ℕ)
    → ((((tag ++ 32 ∷ []) ++ name) ++ 61 ∷ []) ++ 34 ∷ []) ++ value ++ 34 ∷ []
    ≡ tag ++ (codes " " ++ (name ++ (codes "=\"" ++ (value ++ codes "\""))))
attribute_tag tag name value = simp append_assoc

first_read : (context : Context) (byte : ℕ) (tag rest : List ℕ) → is_lower_letter byte ≡ true
    → read_from (BeforeAttributeName context tag) (byte ∷ rest) ≡ read_from (AttributeName context (tag ++ byte ∷ [])) rest
first_read context byte tag rest is = rw is refl

-- A name is read up to its end.
whole_name_read : (context : Context) (name tag rest : List ℕ) → is_attribute_name name ≡ true
    → read_from (BeforeAttributeName context tag) (name ++ rest) ≡ read_from (AttributeName context (tag ++ name)) rest
whole_name_read context [] tag rest is = absurd (cc)
whole_name_read context (byte ∷ name) tag rest is =
    let parts = and_parts (is_lower_letter byte) (list_all is_name_byte (byte ∷ name)) is in
    first_read context byte tag (name ++ rest) parts.0
    ∙ name_read context name (tag ++ byte ∷ []) rest (and_parts (is_name_byte byte) (list_all is_name_byte name) parts.1).1
    ∙ ap (λ t. read_from (AttributeName context t) rest) (append_assoc tag (byte ∷ []) name)

attribute_read : (context : Context) (tag : List ℕ) (state : State) → ReadUpTo context tag state → (attribute : Attribute)
    → is_attribute attribute ≡ true → (rest : List ℕ)
    → read_from state (attribute_text attribute ++ rest) ≡ read_from (AfterAttributeValue context (tag ++ attribute_text attribute)) rest
attribute_read context tag state so_far attribute is rest =
    let parts = and_parts (is_attribute_name attribute.name) (list_all is_value attribute.values) is in
    let name = attribute.name in
    let value = flat_map value_text attribute.values in
    let opened = tag ++ 32 ∷ [] in
    ap (read_from state) (attribute_bytes name value rest) ∙ so_far.space (name ++ 61 ∷ 34 ∷ (value ++ 34 ∷ rest))
    ∙ whole_name_read context name opened (61 ∷ 34 ∷ (value ++ 34 ∷ rest)) parts.0
    ∙ value_read context value (((opened ++ name) ++ 61 ∷ []) ++ 34 ∷ []) (34 ∷ rest) (values_bytes attribute.values parts.1)
    ∙ ap (λ t. read_from (AfterAttributeValue context t) rest) (attribute_tag tag name value)

-- The tokens that are read when a tag ends.
abbrev pub emitted : Context → List ℕ → List ℕ → List Token
emitted context tag behind = (emit_tag context tag).1 ++ read_from (emit_tag context tag).0 behind

attributes_read : (context : Context) (tag : List ℕ) (state : State) → ReadUpTo context tag state → (attributes : List Attribute)
    → list_all is_attribute attributes ≡ true → (behind : List ℕ)
    → read_from state (flat_map attribute_text attributes ++ 62 ∷ behind)
    ≡ emitted context (tag ++ flat_map attribute_text attributes) behind
attributes_read context tag state so_far [] are behind = so_far.ends behind ∙ ap (λ t. emitted context t behind) (sym (append-nil tag))
attributes_read context tag state so_far (attribute ∷ attributes) are behind =
    let parts = and_parts (is_attribute attribute) (list_all is_attribute attributes) are in
    let one = attribute_text attribute in
    let more = flat_map attribute_text attributes in
    ap (read_from state) (append_assoc one more (62 ∷ behind))
    ∙ attribute_read context tag state so_far attribute parts.0 (more ++ 62 ∷ behind)
    ∙ attributes_read context (tag ++ one) (AfterAttributeValue context (tag ++ one))
    (record { space = λ rest. refl; ends = λ rest. refl }) attributes parts.1 behind
    ∙ ap (λ t. emitted context t behind) (append_assoc tag one more)

-- ---- tags

tag_bytes : (name more behind : List ℕ) → ((name ++ more) ++ codes ">") ++ behind ≡ name ++ (more ++ 62 ∷ behind)
tag_bytes name more behind = simp append_assoc

open_read : (context : Context) (byte : ℕ) (rest : List ℕ) → is_first_byte byte ≡ true
    → read_from (TagOpen context) (byte ∷ rest) ≡ read_from (TagName context (byte ∷ [])) rest
open_read context byte rest is =
    let parts = and_parts (not (byte == 47 || byte == 33)) (is_lower_letter byte) is in
    let two = or_parts (byte == 47) (byte == 33) (not-true _ parts.0) in
    let slash = two.0 in
    let bang = two.1 in
    let code_point = parts.1 in
    rw (slash, bang, code_point) refl

pub tag_read : (context : Context) (element : List ℕ) (attributes : List Attribute) → is_element element ≡ true
    → list_all is_attribute attributes ≡ true → (behind : List ℕ)
    → read_from (TagOpen context) ((tag_text element attributes ++ codes ">") ++ behind)
    ≡ emitted context (tag_text element attributes) behind
tag_read context [] attributes is are behind = absurd (cc)
tag_read context (byte ∷ element) attributes is are behind =
    let parts = and_parts (is_first_byte byte) (list_all is_element_byte (byte ∷ element)) is in
    let more = flat_map attribute_text attributes in
    ap (read_from (TagOpen context)) (tag_bytes (byte ∷ element) more behind)
    ∙ open_read context byte (element ++ (more ++ 62 ∷ behind)) parts.0
    ∙ element_read context element (byte ∷ []) (more ++ 62 ∷ behind)
    (and_parts (is_element_byte byte) (list_all is_element_byte element) parts.1).1
    ∙ attributes_read context (byte ∷ element) (TagName context (byte ∷ element))
    (record { space = λ rest. refl; ends = λ rest. refl }) attributes are behind

pub end_tag_read : (context : Context) (element : List ℕ) → is_element element ≡ true → (behind : List ℕ)
    → read_from (EndTagOpen context) ((element ++ codes ">") ++ behind) ≡ emitted context (47 ∷ element) behind
end_tag_read context [] is behind = absurd (cc)
end_tag_read context (byte ∷ element) is behind =
    let parts = and_parts (is_first_byte byte) (list_all is_element_byte (byte ∷ element)) is in
    let code_point = (and_parts (not (byte == 47 || byte == 33)) (is_lower_letter byte) parts.0).1 in
    let begun : (rest : List ℕ) → read_from (EndTagOpen context) (byte ∷ rest) ≡ read_from (TagName context (47 ∷ byte ∷ [])) rest =
    λ rest. rw code_point refl in
    ap (read_from (EndTagOpen context)) (append_assoc (byte ∷ element) (codes ">") behind) ∙ begun (element ++ 62 ∷ behind)
    ∙ element_read context element (47 ∷ byte ∷ []) (62 ∷ behind)
    (and_parts (is_element_byte byte) (list_all is_element_byte element) parts.1).1

-- The name of the element that a tag begins.
name_before_attributes : (bytes : List ℕ) → list_all is_element_byte bytes ≡ true → (attributes : List Attribute)
    → start_name (bytes ++ flat_map attribute_text attributes) ≡ bytes
name_before_attributes [] are [] = refl
name_before_attributes [] are (attribute ∷ attributes) = refl
name_before_attributes (byte ∷ bytes) are attributes =
    let parts = and_parts (is_element_byte byte) (list_all is_element_byte bytes) are in
    let others = and_parts (not (byte == 62 || byte == 32)) (is_lower_letter byte || is_digit byte) (and_parts (is_low byte) _ parts.0).1 in
    let space = (or_parts (byte == 62) (byte == 32) (not-true _ others.0)).1 in
    rw space (ap (λ (b : List ℕ). byte ∷ b) (name_before_attributes bytes parts.1 attributes))

element_bytes : (element : List ℕ) → is_element element ≡ true → list_all is_element_byte element ≡ true
element_bytes [] is = absurd (cc)
element_bytes (byte ∷ bytes) is = (and_parts (is_first_byte byte) (list_all is_element_byte (byte ∷ bytes)) is).1

pub tag_name : (element : List ℕ) (attributes : List Attribute) → is_element element ≡ true
    → start_name (tag_text element attributes) ≡ element
tag_name element attributes is = name_before_attributes element (element_bytes element is) attributes

pub not_end : (byte : ℕ) → is_first_byte byte ≡ true → (byte == 47) ≡ false
not_end byte is = (or_parts (byte == 47) (byte == 33)
    (not-true _ (and_parts (not (byte == 47 || byte == 33)) (is_lower_letter byte) is).0)).0

-- ---- names of attributes

-- A byte that doesn't end the name of an attribute, and doesn't begin one.
abbrev pub continues_name : ℕ → Bool
continues_name byte = not (byte == 34) && not (byte == 32 || byte == 61)

-- Each low byte with the first property has the second one, if all bytes below 128 show it.
low_implies : (p q : ℕ → Bool) (byte : ℕ) → is_low byte ≡ true → ((b : ℕ) → b < 128 → (not (p b) || q b) ≡ true) → p byte ≡ true
    → q byte ≡ true
low_implies p q byte low all is =
    ⊎_elim (λ no. absurd (let e : true ≡ false = sym is ∙ not-true (p byte) no in cc)) (λ yes. yes)
    (or_cases (not (p byte)) (q byte) (all byte (ltb-true byte 128 low)))

name_continues : (byte : ℕ) → is_name_byte byte ≡ true → continues_name byte ≡ true
name_continues byte is =
    low_implies is_name_byte continues_name byte (and_parts (is_low byte) _ is).0
    (λ b below. agree_below_at (λ n. not (is_name_byte n) || continues_name n) (λ n. true) 128 b refl below) is

element_continues : (byte : ℕ) → is_element_byte byte ≡ true → continues_name byte ≡ true
element_continues byte is =
    low_implies is_element_byte continues_name byte (and_parts (is_low byte) _ is).0
    (λ b below. agree_below_at (λ n. not (is_element_byte n) || continues_name n) (λ n. true) 128 b refl below) is

names_after : (name rest : List ℕ) → list_all continues_name name ≡ true
    → attribute_names_in false (name ++ rest) ≡ attribute_names_in false rest
names_after [] rest are = refl
names_after (byte ∷ name) rest are =
    let parts = and_parts (continues_name byte) (list_all continues_name name) are in
    let byte_parts = and_parts (not (byte == 34)) (not (byte == 32 || byte == 61)) parts.0 in
    let quote = not-true (byte == 34) byte_parts.0 in
    let space = (or_parts (byte == 32) (byte == 61) (not-true _ byte_parts.1)).0 in
    rw (quote, space) (names_after name rest parts.1)

names_after_value : (value rest : List ℕ) → list_all is_value_byte value ≡ true
    → attribute_names_in true (value ++ 34 ∷ rest) ≡ attribute_names_in false rest
names_after_value [] rest are = refl
names_after_value (byte ∷ value) rest are =
    let parts = and_parts (is_value_byte byte) (list_all is_value_byte value) are in
    let four = or_parts (byte == 34 || byte == 38 || byte == 0) (byte == 13)
    (not-true _ (and_parts (is_low byte) (not (byte == 34 || byte == 38 || byte == 0 || byte == 13)) parts.0).1) in
    let three = or_parts (byte == 34 || byte == 38) (byte == 0) four.0 in
    let quote = (or_parts (byte == 34) (byte == 38) three.0).0 in
    rw quote (names_after_value value rest parts.1)

name_before_value : (name rest : List ℕ) → list_all continues_name name ≡ true → attribute_name (name ++ 61 ∷ rest) ≡ name
name_before_value [] rest are = refl
name_before_value (byte ∷ name) rest are =
    let parts = and_parts (continues_name byte) (list_all continues_name name) are in
    let ends = not-true _ (and_parts (not (byte == 34)) (not (byte == 32 || byte == 61)) parts.0).1 in
    rw ends (ap (λ (b : List ℕ). byte ∷ b) (name_before_value name rest parts.1))

name_bytes : (name : List ℕ) → is_attribute_name name ≡ true → list_all continues_name name ≡ true
name_bytes [] is = absurd (cc)
name_bytes (byte ∷ name) is =
    all_weaker is_name_byte continues_name name_continues (byte ∷ name)
    (and_parts (is_lower_letter byte) (list_all is_name_byte (byte ∷ name)) is).1

-- The names of attributes.
abbrev pub names_of : List Attribute → List (List ℕ)
names_of attributes = map (λ (attribute : Attribute). attribute.name) attributes

attributes_names : (attributes : List Attribute) → list_all is_attribute attributes ≡ true
    → attribute_names_in false (flat_map attribute_text attributes) ≡ names_of attributes
attributes_names [] are = refl
attributes_names (attribute ∷ attributes) are =
    let parts = and_parts (is_attribute attribute) (list_all is_attribute attributes) are in
    let attribute_parts = and_parts (is_attribute_name attribute.name) (list_all is_value attribute.values) parts.0 in
    let name = attribute.name in
    let value = flat_map value_text attribute.values in
    let more = flat_map attribute_text attributes in
    let bytes = name_bytes name attribute_parts.0 in
    ap (attribute_names_in false) (attribute_bytes name value more)
    ∙ ap (λ (n : List ℕ). n ∷ attribute_names_in false (name ++ 61 ∷ 34 ∷ (value ++ 34 ∷ more)))
    (name_before_value name (34 ∷ (value ++ 34 ∷ more)) bytes)
    ∙ ap (λ (names : List (List ℕ)). name ∷ names)
    (names_after name (61 ∷ 34 ∷ (value ++ 34 ∷ more)) bytes
    ∙ names_after_value value more (values_bytes attribute.values attribute_parts.1) ∙ attributes_names attributes parts.1)

element_continues_all : (element : List ℕ) → is_element element ≡ true → list_all continues_name element ≡ true
element_continues_all element is = all_weaker is_element_byte continues_name element_continues element (element_bytes element is)

pub tag_attributes : (element : List ℕ) (attributes : List Attribute) → is_element element ≡ true
    → list_all is_attribute attributes ≡ true → attribute_names (tag_text element attributes) ≡ names_of attributes
tag_attributes element attributes is are =
    names_after element (flat_map attribute_text attributes) (element_continues_all element is) ∙ attributes_names attributes are

-- An end tag has no attributes.
pub element_attributes : (element : List ℕ) → is_element element ≡ true → attribute_names element ≡ []
element_attributes element is =
    ap attribute_names (sym (append-nil element)) ∙ names_after element [] (element_continues_all element is)

pub names_after_number : (number : ℕ) → attribute_names_in true (number_text number ++ 34 ∷ []) ≡ []
names_after_number number = names_after_value (number_text number) [] (number_value number)

-- ---- ASCII

value_low : (byte : ℕ) → is_value_byte byte ≡ true → is_low byte ≡ true
value_low byte is = (and_parts (is_low byte) _ is).0

name_low : (byte : ℕ) → is_name_byte byte ≡ true → is_low byte ≡ true
name_low byte is = (and_parts (is_low byte) _ is).0

element_low : (byte : ℕ) → is_element_byte byte ≡ true → is_low byte ≡ true
element_low byte is = (and_parts (is_low byte) _ is).0

attribute_name_low : (name : List ℕ) → is_attribute_name name ≡ true → list_all is_low name ≡ true
attribute_name_low [] is = absurd (cc)
attribute_name_low (byte ∷ bytes) is =
    all_weaker is_name_byte is_low name_low (byte ∷ bytes) (and_parts (is_lower_letter byte) (list_all is_name_byte (byte ∷ bytes)) is).1

attribute_low : (attribute : Attribute) → is_attribute attribute ≡ true → list_all is_low (attribute_text attribute) ≡ true
attribute_low attribute is =
    let parts = and_parts (is_attribute_name attribute.name) (list_all is_value attribute.values) is in
    let value = flat_map value_text attribute.values in
    let quoted = all_append is_low value (codes "\"")
    (all_weaker is_value_byte is_low value_low value (values_bytes attribute.values parts.1)) refl in
    all_append is_low attribute.name (codes "=\"" ++ (value ++ codes "\"")) (attribute_name_low attribute.name parts.0) quoted

attributes_low : (attributes : List Attribute) → list_all is_attribute attributes ≡ true
    → list_all is_low (flat_map attribute_text attributes) ≡ true
attributes_low [] are = refl
attributes_low (attribute ∷ attributes) are =
    let parts = and_parts (is_attribute attribute) (list_all is_attribute attributes) are in
    all_append is_low (attribute_text attribute) (flat_map attribute_text attributes) (attribute_low attribute parts.0)
    (attributes_low attributes parts.1)

pub element_name_low : (element : List ℕ) → is_element element ≡ true → list_all is_low element ≡ true
element_name_low element is = all_weaker is_element_byte is_low element_low element (element_bytes element is)

pub tag_low : (element : List ℕ) (attributes : List Attribute) → is_element element ≡ true → list_all is_attribute attributes ≡ true
    → list_all is_low (tag_text element attributes) ≡ true
tag_low element attributes is are = all_append is_low element (flat_map attribute_text attributes) (element_name_low element is)
    (attributes_low attributes are)
