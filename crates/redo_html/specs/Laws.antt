-- Definitions that state the laws about reading.
use Rattle.std.specs.Prelude.{◌≡◌, ◌≢◌, ◌⊎◌, ℕ, ◌<◌, Bool, true, ◌==◌, ◌||◌, ◌&&◌, not, nat_eq, nat_lt, nat_le, List, [], ◌∷◌, ◌++◌, drop, length, map, option_map, codes, if◌then◌else◌}
use Rattle.std.specs.List.{list_all, starts_with}
use Rattle.redo_html.specs.declared.markup.Markup.{Markup}
use Rattle.redo_html.specs.declared.markup.Markup.TheVariants.{TargetItem, Details, OpenDetails, Article}
use Rattle.redo_html.specs.declared.text_kind.TextKind.{TextKind}
use Rattle.redo_html.specs.declared.style.Style.{Style}
use Rattle.redo_html.specs.Chart.{Shape, Layer, Drawing, Node, drawing_nodes}
use Rattle.redo_html.specs.Chart.Node.{StartTag, EndTag, Words}
use Rattle.redo_html.specs.Chart.Shape.{LineShape, TickShape, BarShape}
use Rattle.redo_html.specs.Passage.{passage_html, passage_tokens}
use Rattle.redo_html.specs.Parts.{Part, part_tokens}
use Rattle.redo_html.specs.Parts.Part.{MarkupPart, LogPart, TextPart, NumberPart, TitlePart, StylePart, ChartPart, MeterPart}
use Rattle.redo_html.specs.Tags.{markup_text}
use Rattle.redo_html.specs.Html.{Token, DataState, Normal, read_from, text_of, tags_of, nests_in, is_one_of}
use Rattle.redo_html.specs.Shown.{shown_text}
use Rattle.redo_html.specs.Symbols.{is_link_byte}

-- Bytes that are in text are read as these tokens, and all bytes after them as text again.
abbrev pub ReadsAs : List ℕ → List Token → Type 0
ReadsAs bytes tokens = (behind : List ℕ) → read_from (DataState Normal) (bytes ++ behind) ≡ tokens ++ read_from (DataState Normal) behind

-- The highlights of a passage.
abbrev pub highlights : List (List ℕ)
highlights =
    codes "i" ∷ codes "/i" ∷ codes "b" ∷ codes "b class=\"r\"" ∷ codes "b class=\"g\"" ∷ codes "b class=\"y\"" ∷ codes "b class=\"b\"" ∷ codes "b class=\"m\"" ∷ codes "b class=\"c\"" ∷ codes "/b"
    ∷ codes "span class=\"r\"" ∷ codes "span class=\"g\"" ∷ codes "span class=\"y\"" ∷ codes "span class=\"b\"" ∷ codes "span class=\"m\"" ∷ codes "span class=\"c\"" ∷ codes "/span" ∷ []

abbrev pub is_highlight : List ℕ → Bool
is_highlight tag = is_one_of tag highlights

-- A passage is read as its tokens. Their characters are the text that is shown, and their tags are highlights that nest.
pub record IsReadAsShown (kind : TextKind) (style : Style) (bytes : List ℕ) : Type 0 where
  pub reads : ReadsAs (passage_html kind style bytes) (passage_tokens kind style bytes)
  pub text : text_of (passage_tokens kind style bytes) ≡ shown_text kind bytes
  pub highlights : list_all is_highlight (tags_of (passage_tokens kind style bytes)) ≡ true
  pub nests : (around tags : List (List ℕ)) → nests_in around (tags_of (passage_tokens kind style bytes) ++ tags) ≡ nests_in around tags

-- Printable ASCII other than `&`, `<` and `>`; tabs; line feeds.
abbrev pub is_plain : ℕ → Bool
is_plain byte = (nat_le 32 byte && nat_lt byte 127 && not (byte == 38 || byte == 60 || byte == 62)) || byte == 9 || byte == 10

-- Printable ASCII.
abbrev pub is_printable_ascii : ℕ → Bool
is_printable_ascii byte = nat_le 32 byte && nat_lt byte 127

-- A link: `ESC ] 8 ;`, parameters, `;`, a URL, and BEL or `ESC \`. Parameters and URL are printable ASCII without spaces.
pub record IsLink (link : List ℕ) : Type 0 where
  pub parameters : List ℕ
  pub url : List ℕ
  pub end : List ℕ
  pub are_link_bytes : list_all is_link_byte (parameters ++ 59 ∷ url) ≡ true
  pub ends : (end ≡ 7 ∷ []) ⊎ (end ≡ 27 ∷ 92 ∷ [])
  pub whole : link ≡ 27 ∷ 93 ∷ 56 ∷ 59 ∷ (parameters ++ 59 ∷ url) ++ end

-- Whether a number is a byte.
abbrev pub is_byte : ℕ → Bool
is_byte number = nat_lt number 256

-- Whether the text of a node consists of bytes.
abbrev pub node_has_bytes : Node → Bool
node_has_bytes (StartTag element attributes) = true
node_has_bytes (EndTag element) = true
node_has_bytes (Words text) = list_all is_byte text

-- Whether the text of a part consists of bytes.
abbrev pub has_bytes : Part → Bool
has_bytes (MarkupPart markup) = true
has_bytes (LogPart style text) = list_all is_byte text
has_bytes (TextPart text) = list_all is_byte text
has_bytes (NumberPart number) = true
has_bytes (TitlePart title) = list_all is_byte title
has_bytes StylePart = true
has_bytes (ChartPart drawing) = list_all node_has_bytes (drawing_nodes drawing)
has_bytes (MeterPart width) = true

-- The tag of a part that is a tag.
abbrev pub markup_tag : Part → List (List ℕ)
markup_tag (MarkupPart markup) = markup_text markup ∷ []
markup_tag (LogPart style text) = []
markup_tag (TextPart text) = []
markup_tag (NumberPart number) = []
markup_tag (TitlePart title) = []
markup_tag StylePart = []
markup_tag (ChartPart drawing) = []
markup_tag (MeterPart width) = []

-- The bytes before the first quotation mark.
abbrev pub until_quote : List ℕ → List ℕ
until_quote [] = []
until_quote (byte ∷ bytes) = if byte == 34 then [] else byte ∷ until_quote bytes

-- The value of the first attribute of a tag that begins like this: with a space, its name, and `="`.
abbrev pub value_after : List ℕ → List ℕ → List ℕ
value_after start [] = []
value_after start (byte ∷ bytes) =
    if starts_with nat_eq (byte ∷ bytes) start then until_quote (drop (length start) (byte ∷ bytes)) else value_after start bytes

abbrev pub id_of : Markup → List ℕ
id_of markup = value_after (codes " id=\"") (markup_text markup)

abbrev pub href_of : Markup → List ℕ
href_of markup = value_after (codes " href=\"") (markup_text markup)

-- A link leads to an element of this page.
abbrev pub LeadsTo : Markup → Markup → Type 0
LeadsTo link element = href_of link ≡ 35 ∷ id_of element

-- The elements of targets and of articles have these ids, and elements of other numbers have other ids.
pub record HasOwnId (number : ℕ) : Type 0 where
  pub closed : id_of (Details number) ≡ id_of (TargetItem number)
  pub opened : id_of (OpenDetails number) ≡ id_of (TargetItem number)
  pub targets : (other : ℕ) → other < 0x10000000000000000 → id_of (TargetItem number) ≡ id_of (TargetItem other) → number ≡ other
  pub articles : (other : ℕ) → other < 0x10000000000000000 → id_of (Article number) ≡ id_of (Article other) → number ≡ other
  pub apart : (other : ℕ) → id_of (Article number) ≢ id_of (TargetItem other)

-- A chart with other texts.
module _ (replace : List ℕ → List ℕ) where
  abbrev pub reworded_shape : Shape → Shape
  reworded_shape (LineShape x bottom) = LineShape x bottom
  reworded_shape (TickShape x anchor text) = TickShape x anchor (replace text)
  reworded_shape (BarShape bar) = BarShape (record bar { title = replace bar.title; label = option_map replace bar.label })

  abbrev pub reworded : Drawing → Drawing
  reworded drawing = record drawing { layers = map (λ (layer : Layer). record layer { shapes = map reworded_shape layer.shapes }) drawing.layers }

-- Whether a tag is in a chart without texts, or in a meter.
abbrev pub IsChartTag : List ℕ → Type 0
IsChartTag tag =
    ((drawing : Drawing) × (is_one_of tag (tags_of (part_tokens (ChartPart (reworded (λ text. []) drawing)))) ≡ true))
    ⊎ ((width : ℕ) × (is_one_of tag (tags_of (part_tokens (MeterPart width))) ≡ true))
