-- How a browser reads bytes as HTML: the tokenizer of the HTML standard, section 13.2.5. It has the states for a page that consists of
-- elements, attributes in double quotes, text, and charts in SVG. Each state has the standard's name, and the number of its section.
--
-- If the standard goes to any other state, or reports a parse error, this reading is `Lost`, and stays lost. All bytes that this reading
-- can read, the standard reads in the same way. The model reads bytes. A browser decodes them first; the pages declare UTF-8, which
-- leaves bytes below 128 as they are.
use Rattle.std.specs.Prelude.{ℕ, Bool, true, false, ◌==◌, ◌||◌, ◌&&◌, not, nat_le, List, [], ◌∷◌, ◌++◌, Option, None, Some, bytes_eq, codes, if◌then◌else◌}
use Rattle.std.specs.List.{flat_map}

-- A token: a character of the text, or rather a byte of its UTF-8; a tag, by the bytes between `<` and `>`; or bytes that can't be
-- read.
pub data Token : Type 0 where
  Character : ℕ → Token
  Tag : List ℕ → Token
  Lost : Token

-- Where text is: in an HTML element whose text may have tags and references (13.2.5.1), in a `title`, whose text may have references alone
-- (13.2.5.2), or in a `style`, whose text has neither (13.2.5.3).
--
-- In an `svg` a browser parses foreign content (13.2.6.5), in the data state too. `Svg inner outer` is a context in the element `inner`, which
-- is in the elements `outer`, the innermost first. The outermost one is an `svg` in HTML.
pub data Context : Type 0 where
  Normal : Context
  Rcdata : Context
  Rawtext : Context
  Svg : List ℕ → List (List ℕ) → Context

-- A state, with the bytes read of a tag or of a reference.
pub data State : Type 0 where
  -- 13.2.5.1 to 13.2.5.3: the data, RCDATA and RAWTEXT states
  DataState : Context → State
  -- the data state directly after `<pre>`, where a browser drops a line feed (13.2.6.4.7, "A start tag whose tag name is pre")
  PreState : State
  -- 13.2.5.72, 13.2.5.73
  CharacterReference : Context → List ℕ → State
  -- 13.2.5.6
  TagOpen : Context → State
  -- 13.2.5.7
  EndTagOpen : Context → State
  -- 13.2.5.9 to 13.2.5.11, 13.2.5.12 to 13.2.5.14: `<` in the text of a `title` or `style`, and the bytes after it
  TextLessThan : Context → List ℕ → State
  -- 13.2.5.42, 13.2.5.53 to 13.2.5.55
  MarkupDeclaration : List ℕ → State
  -- 13.2.5.8
  TagName : Context → List ℕ → State
  -- 13.2.5.32
  BeforeAttributeName : Context → List ℕ → State
  -- 13.2.5.33
  AttributeName : Context → List ℕ → State
  -- 13.2.5.35
  BeforeAttributeValue : Context → List ℕ → State
  -- 13.2.5.36
  AttributeValue : Context → List ℕ → State
  -- 13.2.5.39
  AfterAttributeValue : Context → List ℕ → State
  LostState : State

-- The state after a byte, and the tokens that are emitted there.
abbrev pub Step : Type 0
Step = State × List Token

abbrev pub on : State → Step
on state = (state, [])

abbrev pub lost : Step
lost = (LostState, Lost ∷ [])

-- The name of the element that a tag begins: everything before its first space.
abbrev pub start_name : List ℕ → List ℕ
start_name [] = []
start_name (byte ∷ bytes) = if byte == 32 then [] else byte ∷ start_name bytes

abbrev pub is_one_of : List ℕ → List (List ℕ) → Bool
is_one_of name [] = false
is_one_of name (one ∷ others) = bytes_eq name one || is_one_of name others

-- The elements of a page whose content a browser reads in the data state, wherever in the body of a page they are. In others it may go to
-- another state: after `script`, `textarea`, `iframe`, `noscript`, `plaintext` and more.
abbrev pub plain_elements : List (List ℕ)
plain_elements =
    codes "html" ∷ codes "head" ∷ codes "meta" ∷ codes "body" ∷ codes "header" ∷ codes "nav" ∷ codes "main" ∷ codes "section" ∷ codes "article" ∷ codes "footer" ∷ codes "h1" ∷ codes "h2" ∷ codes "h3" ∷ codes "p" ∷ codes "ul"
    ∷ codes "ol" ∷ codes "li" ∷ codes "details" ∷ codes "summary" ∷ codes "a" ∷ codes "b" ∷ codes "bdi" ∷ codes "code" ∷ codes "em" ∷ codes "i" ∷ codes "small" ∷ codes "span" ∷ codes "strong"
    ∷ codes "table" ∷ codes "tbody" ∷ codes "tr" ∷ codes "th" ∷ codes "td" ∷ codes "dl" ∷ codes "dt" ∷ codes "dd" ∷ codes "div" ∷ []

-- A start tag in HTML, and the state after it.
abbrev pub start_tag : List ℕ → Step
start_tag tag =
    if is_one_of (start_name tag) plain_elements then (DataState Normal, Tag tag ∷ [])
    else if bytes_eq (start_name tag) (codes "pre") then (PreState, Tag tag ∷ [])
    else if bytes_eq (start_name tag) (codes "title") then (DataState Rcdata, Tag tag ∷ [])
    else if bytes_eq (start_name tag) (codes "style") then (DataState Rawtext, Tag tag ∷ [])
    else if bytes_eq (start_name tag) (codes "svg") then (DataState (Svg (codes "svg") []), Tag tag ∷ [])
    else lost

-- The elements of a page that may be in an `svg`. HTML elements such as `b` and `p` would end it (13.2.6.5, "A start tag whose tag name is one of").
abbrev pub svg_elements : List (List ℕ)
svg_elements = codes "svg" ∷ codes "g" ∷ codes "a" ∷ codes "rect" ∷ codes "line" ∷ codes "text" ∷ codes "title" ∷ []

-- A start tag in an `svg`. A `title` there is read in the data state, but start tags in it are lost, because they are HTML again: it is an
-- HTML integration point (13.2.6).
abbrev pub svg_start_tag : List ℕ → List (List ℕ) → List ℕ → Step
svg_start_tag inner outer tag =
    if not (bytes_eq inner (codes "title")) && is_one_of (start_name tag) svg_elements then (DataState (Svg (start_name tag) (inner ∷ outer)), Tag tag ∷ []) else lost

-- The context in elements of an `svg`, the innermost first.
abbrev pub context_in : List (List ℕ) → Context
context_in [] = Normal
context_in (inner ∷ outer) = Svg inner outer

-- An end tag in an `svg`. It ends the innermost element: any other end tag is a parse error, and may end elements of HTML (13.2.6.5, "Any other
-- end tag").
abbrev pub svg_end_tag : List ℕ → List (List ℕ) → List ℕ → Step
svg_end_tag inner outer name = if bytes_eq name inner then (DataState (context_in outer), Tag (47 ∷ name) ∷ []) else lost

-- The names of the attributes of a tag. Each begins after a space outside of quotes, and ends before the next space or `=`.
abbrev pub attribute_name : List ℕ → List ℕ
attribute_name [] = []
attribute_name (byte ∷ bytes) = if byte == 32 || byte == 61 then [] else byte ∷ attribute_name bytes

abbrev pub name_begun : Bool → ℕ → List ℕ → List (List ℕ)
name_begun is_quoted byte bytes = if not is_quoted && byte == 32 then attribute_name bytes ∷ [] else []

abbrev pub is_quoted_after : Bool → ℕ → Bool
is_quoted_after is_quoted byte = if byte == 34 then not is_quoted else is_quoted

abbrev pub attribute_names_in : Bool → List ℕ → List (List ℕ)
attribute_names_in is_quoted [] = []
attribute_names_in is_quoted (byte ∷ bytes) = name_begun is_quoted byte bytes ++ attribute_names_in (is_quoted_after is_quoted byte) bytes

abbrev pub attribute_names : List ℕ → List (List ℕ)
attribute_names tag = attribute_names_in false tag

abbrev pub are_distinct : List (List ℕ) → Bool
are_distinct [] = true
are_distinct (name ∷ names) = not (is_one_of name names) && are_distinct names

abbrev pub is_empty : List (List ℕ) → Bool
is_empty [] = true
is_empty (name ∷ names) = false

-- A tag whose attributes a browser keeps. After an end tag in HTML, text is in the data state. An end tag of `svg` in HTML ends nothing, like
-- any end tag without a start tag.
abbrev pub emit_whole : Context → List ℕ → Step
emit_whole context [] = lost
emit_whole (Svg inner outer) (byte ∷ bytes) = if byte == 47 then svg_end_tag inner outer bytes else svg_start_tag inner outer (byte ∷ bytes)
emit_whole context (byte ∷ bytes) = if byte == 47 then (DataState Normal, Tag (byte ∷ bytes) ∷ []) else start_tag (byte ∷ bytes)

-- Whether a browser keeps the attributes of a tag. It drops an attribute with the name of an earlier one (13.2.5.33), and all attributes of an
-- end tag (13.2.5). Both are parse errors.
abbrev pub keeps_attributes : List ℕ → Bool
keeps_attributes [] = true
keeps_attributes (byte ∷ bytes) = if byte == 47 then is_empty (attribute_names bytes) else are_distinct (attribute_names (byte ∷ bytes))

abbrev pub emit_tag : Context → List ℕ → Step
emit_tag context tag = if keeps_attributes tag then emit_whole context tag else lost

abbrev pub is_lower_letter : ℕ → Bool
is_lower_letter byte = nat_le 97 byte && nat_le byte 122

abbrev pub is_digit : ℕ → Bool
is_digit byte = nat_le 48 byte && nat_le byte 57

-- The standard rejects the byte 0 in text, and reads a carriage return as a line feed (13.2.3.5).
abbrev pub is_rejected : ℕ → Bool
is_rejected byte = byte == 0 || byte == 13

-- The character that a reference names. Only the names for `<`, `>` and `&` of the standard's table are known here.
abbrev pub named_character : List ℕ → Option ℕ
named_character name = if bytes_eq name (codes "lt") then Some 60 else if bytes_eq name (codes "gt") then Some 62 else if bytes_eq name (codes "amp") then Some 38 else None

abbrev pub after_reference : Context → Option ℕ → Step
after_reference context None = lost
after_reference context (Some character) = (DataState context, Character character ∷ [])

-- Text that may have tags and references.
abbrev pub data_step : Context → ℕ → Step
data_step context byte = if byte == 60 then on (TagOpen context) else if byte == 38 then on (CharacterReference context []) else if is_rejected byte then lost else (DataState context, Character byte ∷ [])

-- Text, in each of the contexts. A tag ends a `title` or a `style` of HTML only if it is the end tag of that element.
abbrev pub text_step : Context → ℕ → Step
text_step Normal byte = data_step Normal byte
text_step (Svg inner outer) byte = data_step (Svg inner outer) byte
text_step Rcdata byte =
    if byte == 60 then on (TextLessThan Rcdata []) else if byte == 38 then on (CharacterReference Rcdata []) else if is_rejected byte then lost else (DataState Rcdata, Character byte ∷ [])
text_step Rawtext byte = if byte == 60 then on (TextLessThan Rawtext []) else if is_rejected byte then lost else (DataState Rawtext, Character byte ∷ [])

-- The end tag that ends the `title` or the `style` around text in this context.
abbrev pub closing_tag : Context → List ℕ
closing_tag Normal = []
closing_tag (Svg inner outer) = []
closing_tag Rcdata = codes "/title"
closing_tag Rawtext = codes "/style"

-- `<!` in HTML. A declaration or CDATA (13.2.5.42) in an `svg` is lost.
abbrev pub declaration : Context → Step
declaration Normal = on (MarkupDeclaration (33 ∷ []))
declaration context = lost

abbrev pub step : State → ℕ → Step
step (DataState context) byte = text_step context byte
step PreState byte = if byte == 10 then on (DataState Normal) else text_step Normal byte
step (CharacterReference context name) byte =
    if is_lower_letter byte then on (CharacterReference context (name ++ byte ∷ [])) else if byte == 59 then after_reference context (named_character name) else lost
step (TagOpen context) byte = if byte == 47 then on (EndTagOpen context) else if byte == 33 then declaration context else if is_lower_letter byte then on (TagName context (byte ∷ [])) else lost
step (EndTagOpen context) byte = if is_lower_letter byte then on (TagName context (47 ∷ byte ∷ [])) else lost
step (TextLessThan context tag) byte = if byte == 62 then (if bytes_eq tag (closing_tag context) then emit_tag context tag else lost) else on (TextLessThan context (tag ++ byte ∷ []))
step (MarkupDeclaration tag) byte = if byte == 62 then (if bytes_eq tag (codes "!doctype html") then (DataState Normal, Tag tag ∷ []) else lost) else on (MarkupDeclaration (tag ++ byte ∷ []))
step (TagName context tag) byte =
    if byte == 62 then emit_tag context tag
    else if byte == 32 then on (BeforeAttributeName context (tag ++ byte ∷ []))
    else if is_lower_letter byte || is_digit byte then on (TagName context (tag ++ byte ∷ []))
    else lost
step (BeforeAttributeName context tag) byte = if is_lower_letter byte then on (AttributeName context (tag ++ byte ∷ [])) else lost
step (AttributeName context tag) byte =
    if byte == 62 then emit_tag context tag
    else if byte == 32 then on (BeforeAttributeName context (tag ++ byte ∷ []))
    else if byte == 61 then on (BeforeAttributeValue context (tag ++ byte ∷ []))
    else if is_lower_letter byte || is_digit byte || byte == 45 then on (AttributeName context (tag ++ byte ∷ []))
    else lost
step (BeforeAttributeValue context tag) byte = if byte == 34 then on (AttributeValue context (tag ++ byte ∷ [])) else lost
step (AttributeValue context tag) byte = if byte == 34 then on (AfterAttributeValue context (tag ++ byte ∷ [])) else if byte == 38 || is_rejected byte then lost else on (AttributeValue context (tag ++ byte ∷ []))
step (AfterAttributeValue context tag) byte = if byte == 62 then emit_tag context tag else if byte == 32 then on (BeforeAttributeName context (tag ++ byte ∷ [])) else lost
step LostState byte = on LostState

-- At the end of the bytes nothing may be open.
abbrev pub at_end : State → List Token
at_end (DataState Normal) = []
at_end PreState = []
at_end LostState = []
at_end state = Lost ∷ []

-- The tokens that are read from a state on.
abbrev pub read_from : State → List ℕ → List Token
read_from state [] = at_end state
read_from state (byte ∷ bytes) = let next = step state byte in next.1 ++ read_from next.0 bytes

-- The tokens of a page.
abbrev pub read : List ℕ → List Token
read bytes = read_from (DataState Normal) bytes

-- The text of tokens, and their tags.
abbrev pub characters_of : Token → List ℕ
characters_of (Character byte) = byte ∷ []
characters_of (Tag tag) = []
characters_of Lost = []

abbrev pub text_of : List Token → List ℕ
text_of tokens = flat_map characters_of tokens

abbrev pub tag_of : Token → List (List ℕ)
tag_of (Character byte) = []
tag_of (Tag tag) = tag ∷ []
tag_of Lost = []

abbrev pub tags_of : List Token → List (List ℕ)
tags_of tokens = flat_map tag_of tokens

-- Elements that have no end tag, and the declaration at the head of a page, which is none.
abbrev pub void_elements : List (List ℕ)
void_elements = codes "!doctype" ∷ codes "meta" ∷ []

abbrev pub is_void : List ℕ → Bool
is_void name = is_one_of name void_elements

-- Whether each end tag ends the element that was begun last, and no element is open at the end. `around` has the names of the elements that
-- are open, the innermost first.
abbrev pub after_end_tag : List ℕ → List (List ℕ) → (List (List ℕ) → Bool) → Bool
after_end_tag name [] nests = false
after_end_tag name (inner ∷ outer) nests = bytes_eq name inner && nests outer

abbrev pub nests_in : List (List ℕ) → List (List ℕ) → Bool
nests_in around [] = is_empty around
nests_in around ([] ∷ tags) = false
nests_in around ((byte ∷ bytes) ∷ tags) =
    if byte == 47 then after_end_tag bytes around (λ outer. nests_in outer tags)
    else if is_void (start_name (byte ∷ bytes)) then nests_in around tags
    else nests_in (start_name (byte ∷ bytes) ∷ around) tags
