-- Members of a JSON object, and which members say what bytes, numbers and lists are.
use Rattle.std.specs.Prelude.{ℕ, ℤ, suc, Bool, List, [], ◌∷◌, ◌++◌, Option, None, Some, codes}
use Rattle.std.specs.Fmt.{decimal, signed_decimal}
use Rattle.json.specs.Json.{Json, Items, Members, array, boolean, item, member, no_items, no_members, null, number, object, string}
use Rattle.redo_json.specs.Text.{exact_of, text_of}

-- A member of an object.
pub record Field : Type 0 where
  pub name : List ℕ
  pub value : Json

abbrev pub field : List ℕ → Json → Field
field name value = record { name = name; value = value }

abbrev pub members_of : List Field → Members
members_of [] = no_members
members_of (one ∷ others) = member one.name one.value (members_of others)

-- An object with these members, in order.
abbrev pub object_with : List Field → Json
object_with fields = object (members_of fields)

-- The name of the member that has exact bytes of another one.
abbrev pub exact_name : List ℕ → List ℕ
exact_name name = name ++ codes "_base64"

-- The exact bytes, if they are given.
abbrev pub exact_fields : List ℕ → Option (List ℕ) → List Field
exact_fields name None = []
exact_fields name (Some exact) = field name (string exact) ∷ []

-- Bytes: their text, and the exact bytes if the text doesn't have them.
abbrev pub bytes_fields : List ℕ → List ℕ → List Field
bytes_fields name bytes = field name (string (text_of bytes)) ∷ exact_fields (exact_name name) (exact_of bytes)

-- Bytes that may not be known.
abbrev pub optional_bytes_fields : List ℕ → Option (List ℕ) → List Field
optional_bytes_fields name None = field name null ∷ []
optional_bytes_fields name (Some bytes) = bytes_fields name bytes

-- A number that may not be known.
abbrev pub number_value : Option ℕ → Json
number_value None = null
number_value (Some value) = number (decimal value)

-- A signed number that may not be known.
abbrev pub signed_value : Option ℤ → Json
signed_value None = null
signed_value (Some value) = number (signed_decimal value)

-- A truth value that may not be known.
abbrev pub boolean_value : Option Bool → Json
boolean_value None = null
boolean_value (Some value) = boolean value

-- The texts of a list.
abbrev pub strings : List (List ℕ) → Items
strings [] = no_items
strings (bytes ∷ others) = item (string (text_of bytes)) (strings others)

-- The exact bytes of the items whose texts don't have them. The name of each is the position of the item, counted from this one.
abbrev pub exact_items : ℕ → List (List ℕ) → List Field
exact_items position [] = []
exact_items position (bytes ∷ others) = exact_fields (decimal position) (exact_of bytes) ++ exact_items (suc position) others

-- The exact bytes of items, if any are given.
abbrev pub exact_list : List ℕ → List Field → List Field
exact_list name [] = []
exact_list name (one ∷ others) = field name (object_with (one ∷ others)) ∷ []

-- A list: the texts of its items, and the exact bytes of each item whose text doesn't have them.
abbrev pub list_fields : List ℕ → List (List ℕ) → List Field
list_fields name list = field name (array (strings list)) ∷ exact_list (exact_name name) (exact_items 0 list)
