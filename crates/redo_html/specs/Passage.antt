-- A passage as HTML: the text that it shows, with highlights for unprintable code points and styles. Elements that begin in a passage
-- end in it.
use Rattle.std.specs.Prelude.{ℕ, Bool, true, false, ◌==◌, ◌||◌, ◌&&◌, not, List, [], ◌∷◌, ◌++◌, map, codes, if◌then◌else◌}
use Rattle.std.specs.List.{flat_map}
use Rattle.redo_html.specs.declared.text_kind.TextKind.{TextKind}
use Rattle.redo_html.specs.declared.text_kind.TextKind.TheVariants.{Log, Monochrome, Title}
use Rattle.redo_html.specs.declared.style.Hue.{Hue}
use Rattle.redo_html.specs.declared.style.Hue.TheVariants.{Plain, Red, Green, Yellow, Blue, Magenta, Cyan}
use Rattle.redo_html.specs.declared.style.Style.{Style}
use Rattle.redo_html.specs.Html.{Token}
use Rattle.redo_html.specs.Html.Token.{Character, Tag}
use Rattle.redo_html.specs.Shown.{Run, runs_of, code_points_text, is_unprintable}
use Rattle.redo_html.specs.Shown.Run.{CodePoints, Restyle}
use Rattle.redo_html.specs.Style.{restyled}
use Rattle.redo_html.specs.Symbols.{symbols}

-- Text, with references for the three bytes that would begin or end something else.
abbrev pub escaped_byte : ℕ → List ℕ
escaped_byte byte = if byte == 38 then codes "&amp;" else if byte == 60 then codes "&lt;" else if byte == 62 then codes "&gt;" else byte ∷ []

abbrev pub escaped : List ℕ → List ℕ
escaped bytes = flat_map escaped_byte bytes

-- The class of a hue, as an attribute.
abbrev pub hue_class : Hue → List ℕ
hue_class Plain = []
hue_class Red = codes " class=\"r\""
hue_class Green = codes " class=\"g\""
hue_class Yellow = codes " class=\"y\""
hue_class Blue = codes " class=\"b\""
hue_class Magenta = codes " class=\"m\""
hue_class Cyan = codes " class=\"c\""

abbrev pub style_name : Bool → List ℕ
style_name true = codes "b"
style_name false = codes "span"

-- A part of a passage: where a highlight begins or ends, or code points.
pub data Inline : Type 0 where
  UnprintableStart : Inline
  UnprintableEnd : Inline
  StyleStart : Style → Inline
  StyleEnd : Style → Inline
  Text : ℕ → ℕ → Inline

-- The text between the `<` and the `>` of a highlight.
abbrev pub highlight_text : Inline → List ℕ
highlight_text UnprintableStart = codes "i"
highlight_text UnprintableEnd = codes "/i"
highlight_text (StyleStart style) = style_name style.bold ++ hue_class style.hue
highlight_text (StyleEnd style) = 47 ∷ style_name style.bold
highlight_text (Text code_point count) = []

-- In a `title` there are no elements.
abbrev pub has_highlights : TextKind → Bool
has_highlights Log = true
has_highlights Monochrome = true
has_highlights Title = false

abbrev pub highlight_html : TextKind → List ℕ → List ℕ
highlight_html kind tag = if has_highlights kind then 60 ∷ (tag ++ 62 ∷ []) else []

abbrev pub highlight_tokens : TextKind → List ℕ → List Token
highlight_tokens kind tag = if has_highlights kind then Tag tag ∷ [] else []

-- A part of a passage, as it is written and as it is read.
abbrev pub inline_html : TextKind → Inline → List ℕ
inline_html kind (Text code_point count) = escaped (code_points_text code_point count)
inline_html kind highlight = highlight_html kind (highlight_text highlight)

abbrev pub inline_tokens : TextKind → Inline → List Token
inline_tokens kind (Text code_point count) = map Character (code_points_text code_point count)
inline_tokens kind highlight = highlight_tokens kind (highlight_text highlight)

abbrev pub hue_number : Hue → ℕ
hue_number Plain = 0
hue_number Red = 1
hue_number Green = 2
hue_number Yellow = 3
hue_number Blue = 4
hue_number Magenta = 5
hue_number Cyan = 6

-- A style other than the page's own has an element.
abbrev pub has_element : Style → Bool
has_element style = style.bold || not (hue_number style.hue == 0)

abbrev pub style_start : Style → List Inline
style_start style = if has_element style then StyleStart style ∷ [] else []

abbrev pub style_end : Style → List Inline
style_end style = if has_element style then StyleEnd style ∷ [] else []

abbrev pub same_bool : Bool → Bool → Bool
same_bool true other = other
same_bool false other = not other

abbrev pub is_same_style : Style → Style → Bool
is_same_style one other = same_bool one.bold other.bold && hue_number one.hue == hue_number other.hue

-- The members of a list in groups: neighbours with the same key are in one group, which has the key too.
module _ {Key Member : Type 0} (same : Key → Key → Bool) where
  -- A group that begins with this member, or the first group with it in front.
  abbrev pub with_member : Key → Member → List (Key × List Member) → List (Key × List Member)
  with_member key member [] = (key, member ∷ []) ∷ []
  with_member key member ((next, members) ∷ groups) = if same key next then (next, member ∷ members) ∷ groups else (key, member ∷ []) ∷ (next, members) ∷ groups

  abbrev pub group_by : List (Key × Member) → List (Key × List Member)
  group_by [] = []
  group_by ((key, member) ∷ members) = with_member key member (group_by members)

-- The code points of a passage that begins with this style, each with the style that the sequences before it set, and with whether it is
-- unprintable.
abbrev pub styled_texts : Style → List Run → List (Style × (Bool × Inline))
styled_texts style [] = []
styled_texts style (CodePoints code_point count ∷ runs) = (style, (is_unprintable code_point, Text code_point count)) ∷ styled_texts style runs
styled_texts style (Restyle numbers ∷ runs) = styled_texts (restyled style numbers) runs

-- One highlight is around unprintable code points in a row.
abbrev pub printability_group : Bool × List Inline → List Inline
printability_group (true, texts) = UnprintableStart ∷ (texts ++ UnprintableEnd ∷ [])
printability_group (false, texts) = texts

-- One highlight is around code points in a row with the same style, and around their highlights for unprintable ones.
abbrev pub style_group : Style × List (Bool × Inline) → List Inline
style_group (style, texts) = style_start style ++ flat_map printability_group (group_by same_bool texts) ++ style_end style

-- All parts of a passage that begins with this style.
abbrev pub passage_inlines : Style → List Run → List Inline
passage_inlines style runs = flat_map style_group (group_by is_same_style (styled_texts style runs))

-- A passage that begins with this style, as it is written and as it is read.
unfoldable pub passage_html : TextKind → Style → List ℕ → List ℕ
passage_html kind style bytes = flat_map (inline_html kind) (passage_inlines style (runs_of (symbols kind bytes)))

abbrev pub passage_tokens : TextKind → Style → List ℕ → List Token
passage_tokens kind style bytes = flat_map (inline_tokens kind) (passage_inlines style (runs_of (symbols kind bytes)))
