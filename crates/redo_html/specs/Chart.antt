-- Charts: their elements, as they are written and as they are read, and the text that they show.
use Rattle.std.specs.Prelude.{ℕ, ◌+◌, ◌*◌, ◌/◌, ◌%◌, ◌==◌, Bool, List, [], ◌∷◌, ◌++◌, map, Option, None, Some, option_map, codes, if◌then◌else◌}
use Rattle.std.specs.List.{flat_map}
use Rattle.redo_html.specs.declared.chart.Anchor.{Anchor}
use Rattle.redo_html.specs.declared.chart.Anchor.TheVariants as anchor
use Rattle.redo_html.specs.declared.chart.Bar.{Bar}
use Rattle.redo_html.specs.declared.chart.Chart.{Chart}
use Rattle.redo_html.specs.declared.chart.ChartGroup.{ChartGroup}
use Rattle.redo_html.specs.declared.chart.ChartItem.{ChartItem}
use Rattle.redo_html.specs.declared.chart.ChartItem.TheVariants as item
use Rattle.redo_html.specs.declared.chart.GroupKind.{GroupKind}
use Rattle.redo_html.specs.declared.chart.GroupKind.TheVariants.{Axis, Callers, Recipes, Untimed}
use Rattle.redo_html.specs.declared.text_kind.TextKind.TheVariants.{Title}
use Rattle.redo_html.specs.Html.{Token}
use Rattle.redo_html.specs.Html.Token.{Tag}
use Rattle.redo_html.specs.Passage.{passage_html, passage_tokens}
use Rattle.redo_html.specs.Shown.{number_text, shown_text}
use Rattle.redo_html.specs.Style.{plain_style}

-- ---- the elements of a chart

-- A bar: the number of its target, where it is, whether the target failed, its tooltip, and its label, if it has one. `x` and `width` are in
-- hundredths of a percent.
pub record DrawnBar : Type 0 where
  pub target : ℕ
  pub x : ℕ
  pub y : ℕ
  pub width : ℕ
  pub height : ℕ
  pub failed : Bool
  pub title : List ℕ
  pub label : Option (List ℕ)

-- A vertical line, with `x` and its lower end; a text on the axis; a bar.
pub data Shape : Type 0 where
  LineShape : ℕ → ℕ → Shape
  TickShape : ℕ → Anchor → List ℕ → Shape
  BarShape : DrawnBar → Shape

pub record Layer : Type 0 where
  pub kind : GroupKind
  pub shapes : List Shape

pub record Drawing : Type 0 where
  pub height : ℕ
  pub lanes : ℕ
  pub layers : List Layer

abbrev pub bar_of : Bar → DrawnBar
bar_of bar = record {
  target = bar.target;
  x = bar.x;
  y = bar.y;
  width = bar.width;
  height = bar.height;
  failed = bar.failed;
  title = bar.title.now;
  label = option_map (λ label. label.now) bar.label;
}

abbrev pub shape_of : ChartItem → Shape
shape_of (item.Line x bottom) = LineShape x bottom
shape_of (item.Tick x at text) = TickShape x at text.now
shape_of (item.Bar bar) = BarShape (bar_of bar)

abbrev pub layer_of : ChartGroup → Layer
layer_of group = record { kind = group.kind; shapes = map shape_of group.items.now }

abbrev pub drawing_of : Chart → Drawing
drawing_of chart = record { height = chart.height; lanes = chart.lanes; layers = map layer_of chart.groups.now }

-- ---- elements

-- A part of the value of an attribute: text of the program, a number, or a percentage in hundredths. No value has text of a log or a name.
pub data Value : Type 0 where
  Fixed : List ℕ → Value
  Number : ℕ → Value
  Percent : ℕ → Value

pub record Attribute : Type 0 where
  pub name : List ℕ
  pub values : List Value

-- A start tag, an end tag, or text between tags.
pub data Node : Type 0 where
  StartTag : List ℕ → List Attribute → Node
  EndTag : List ℕ → Node
  Words : List ℕ → Node

abbrev pub last_digit : ℕ → ℕ
last_digit number = 48 + number % 10

-- A percentage, which is given in hundredths, with two decimals: `12.34%`.
abbrev pub percent_text : ℕ → List ℕ
percent_text hundredths = number_text (hundredths / 100) ++ 46 ∷ last_digit (hundredths / 10) ∷ last_digit hundredths ∷ 37 ∷ []

abbrev pub value_text : Value → List ℕ
value_text (Fixed text) = text
value_text (Number number) = number_text number
value_text (Percent hundredths) = percent_text hundredths

abbrev pub attribute_text : Attribute → List ℕ
attribute_text attribute = codes " " ++ (attribute.name ++ (codes "=\"" ++ (flat_map value_text attribute.values ++ codes "\"")))

-- The text of a start tag between its `<` and its `>`.
abbrev pub tag_text : List ℕ → List Attribute → List ℕ
tag_text element attributes = element ++ flat_map attribute_text attributes

-- A node, as it is written, as it is read, and as a reader sees it. Its text has no highlights, because those are HTML elements.
abbrev pub node_html : Node → List ℕ
node_html (StartTag element attributes) = codes "<" ++ (tag_text element attributes ++ codes ">")
node_html (EndTag element) = codes "</" ++ (element ++ codes ">")
node_html (Words text) = passage_html Title plain_style text

abbrev pub node_tokens : Node → List Token
node_tokens (StartTag element attributes) = Tag (tag_text element attributes) ∷ []
node_tokens (EndTag element) = Tag (47 ∷ element) ∷ []
node_tokens (Words text) = passage_tokens Title plain_style text

abbrev pub node_text : Node → List ℕ
node_text (StartTag element attributes) = []
node_text (EndTag element) = []
node_text (Words text) = shown_text Title text

-- ---- the elements of a chart

-- An element with its content.
abbrev pub element : List ℕ → List Attribute → List Node → List Node
element name attributes content = StartTag name attributes ∷ (content ++ EndTag name ∷ [])

abbrev pub fixed : List ℕ → List ℕ → Attribute
fixed name text = record { name = name; values = Fixed text ∷ [] }

abbrev pub number : List ℕ → ℕ → Attribute
number name value = record { name = name; values = Number value ∷ [] }

abbrev pub percent : List ℕ → ℕ → Attribute
percent name hundredths = record { name = name; values = Percent hundredths ∷ [] }

abbrev pub position : DrawnBar → List Attribute
position bar = percent (codes "x") bar.x ∷ number (codes "y") bar.y ∷ percent (codes "width") bar.width ∷ number (codes "height") bar.height ∷ []

abbrev pub failed_attributes : Bool → List Attribute
failed_attributes failed = if failed then fixed (codes "class") (codes "f") ∷ fixed (codes "fill") (codes "#c62828") ∷ [] else []

-- The bars of recipes that ran others are pale, except those that failed.
abbrev pub label_fill : GroupKind → Bool → List ℕ
label_fill Axis failed = codes "#fff"
label_fill Callers failed = if failed then codes "#fff" else codes "currentColor"
label_fill Recipes failed = codes "#fff"
label_fill Untimed failed = codes "#fff"

abbrev pub tooltip : List ℕ → List Node
tooltip text = element (codes "title") [] (Words text ∷ [])

abbrev pub bar_nodes : GroupKind → DrawnBar → Option (List ℕ) → List Node
bar_nodes kind bar None = element (codes "rect") (position bar ++ failed_attributes bar.failed) (tooltip bar.title)
bar_nodes kind bar (Some label) =
    element (codes "svg") (position bar) (
    tooltip bar.title
    ++ element (codes "rect") (fixed (codes "width") (codes "100%") ∷ number (codes "height") bar.height ∷ failed_attributes bar.failed) []
    ++ element (codes "text") (fixed (codes "x") (codes "4") ∷ number (codes "y") (bar.height / 4 * 3) ∷ fixed (codes "fill") (label_fill kind bar.failed) ∷ []) (Words label ∷ []))

abbrev pub anchor_attributes : Anchor → List Attribute
anchor_attributes anchor.Start = []
anchor_attributes anchor.Middle = fixed (codes "text-anchor") (codes "middle") ∷ []
anchor_attributes anchor.End = fixed (codes "text-anchor") (codes "end") ∷ []

-- A bar is a link to its target.
abbrev pub shape_nodes : GroupKind → Shape → List Node
shape_nodes kind (LineShape x bottom) =
    element (codes "line") (percent (codes "x1") x ∷ percent (codes "x2") x ∷ fixed (codes "y1") (codes "15") ∷ number (codes "y2") bottom ∷ []) []
shape_nodes kind (TickShape x at text) = element (codes "text") (percent (codes "x") x ∷ fixed (codes "y") (codes "11") ∷ anchor_attributes at) (Words text ∷ [])
shape_nodes kind (BarShape bar) =
    element (codes "a") (record { name = codes "href"; values = Fixed (codes "#t") ∷ Number bar.target ∷ [] } ∷ fixed (codes "tabindex") (codes "-1") ∷ []) (bar_nodes kind bar bar.label)

abbrev pub group_attributes : GroupKind → List Attribute
group_attributes Axis =
    fixed (codes "class") (codes "axis") ∷ fixed (codes "stroke") (codes "#8886") ∷ fixed (codes "fill") (codes "currentColor") ∷ fixed (codes "stroke-width") (codes ".5") ∷ []
group_attributes Callers = fixed (codes "class") (codes "w") ∷ fixed (codes "fill") (codes "#8886") ∷ []
group_attributes Recipes = fixed (codes "class") (codes "k") ∷ fixed (codes "fill") (codes "#3a6ea5") ∷ []
group_attributes Untimed = fixed (codes "class") (codes "e") ∷ fixed (codes "fill") (codes "#8a6d3b") ∷ []

abbrev pub layer_nodes : Layer → List Node
layer_nodes layer = element (codes "g") (group_attributes layer.kind) (flat_map (shape_nodes layer.kind) layer.shapes)

abbrev pub lanes_word : ℕ → List ℕ
lanes_word lanes = if lanes == 1 then codes " lane" else codes " lanes"

-- The text of the chart for a screen reader.
abbrev pub chart_label : ℕ → List Value
chart_label lanes = Fixed (codes "A bar for each target, from its start to its end, in ") ∷ Number lanes ∷ Fixed (lanes_word lanes) ∷ []

abbrev pub chart_attributes : ℕ → ℕ → List Attribute
chart_attributes height lanes =
    fixed (codes "role") (codes "img") ∷ record { name = codes "aria-label"; values = chart_label lanes } ∷ fixed (codes "width") (codes "100%") ∷ number (codes "height") height
    ∷ fixed (codes "font-size") (codes "11") ∷ []

abbrev pub drawing_nodes : Drawing → List Node
drawing_nodes drawing = element (codes "svg") (chart_attributes drawing.height drawing.lanes) (flat_map layer_nodes drawing.layers)

-- A bar for a cell of a table.
abbrev pub meter_nodes : ℕ → List Node
meter_nodes width =
    element (codes "svg") (fixed (codes "width") (codes "100%") ∷ fixed (codes "height") (codes "10") ∷ fixed (codes "aria-hidden") (codes "true") ∷ [])
    (element (codes "rect") (percent (codes "width") width ∷ fixed (codes "height") (codes "10") ∷ fixed (codes "fill") (codes "#3a6ea5") ∷ []) [])

-- Nodes, as they are written, as they are read, and as a reader sees them.
abbrev pub nodes_html : List Node → List ℕ
nodes_html nodes = flat_map node_html nodes

abbrev pub nodes_tokens : List Node → List Token
nodes_tokens nodes = flat_map node_tokens nodes

abbrev pub nodes_text : List Node → List ℕ
nodes_text nodes = flat_map node_text nodes

-- The numbers of the targets that the bars of a chart lead to, in order.
abbrev pub shape_links : Shape → List ℕ
shape_links (LineShape x bottom) = []
shape_links (TickShape x at text) = []
shape_links (BarShape bar) = bar.target ∷ []

abbrev pub drawing_links : Drawing → List ℕ
drawing_links drawing = flat_map (λ layer. flat_map shape_links layer.shapes) drawing.layers
