-- The parts of a page, as they are written and as they are read.
use Rattle.std.specs.Prelude.{ℕ, List, [], ◌∷◌, ◌++◌, map, codes}
use Rattle.redo_html.specs.declared.text_kind.TextKind.TheVariants as text_kind
use Rattle.redo_html.specs.declared.markup.Markup.{Markup}
use Rattle.redo_html.specs.declared.piece.Piece.{Piece}
use Rattle.redo_html.specs.declared.piece.Piece.TheVariants as piece
use Rattle.redo_html.specs.declared.style.Style.{Style}
use Rattle.redo_html.specs.Chart.{Drawing, drawing_nodes, drawing_of, meter_nodes, nodes_html, nodes_text, nodes_tokens}
use Rattle.redo_html.specs.Passage.{passage_html, passage_tokens}
use Rattle.redo_html.specs.Html.{Token}
use Rattle.redo_html.specs.Html.Token.{Character, Tag}
use Rattle.redo_html.specs.Shown.{number_text, shown_text}
use Rattle.redo_html.specs.Style.{plain_style}
use Rattle.redo_html.specs.StyleSheet.{style_sheet}
use Rattle.redo_html.specs.Tags.{markup_text, markup_html}

-- A tag; text of a log that begins with this style; a name, or words of the program; a number; the title of the page; its style sheet; a
-- chart; a meter that is filled to this width, in hundredths of a percent.
pub data Part : Type 0 where
  MarkupPart : Markup → Part
  LogPart : Style → List ℕ → Part
  TextPart : List ℕ → Part
  NumberPart : ℕ → Part
  TitlePart : List ℕ → Part
  StylePart : Part
  ChartPart : Drawing → Part
  MeterPart : ℕ → Part

abbrev pub part_of : Piece → Part
part_of (piece.Markup markup) = MarkupPart markup
part_of (piece.Log style text) = LogPart style text.now
part_of (piece.Text text) = TextPart text.now
part_of (piece.Number number) = NumberPart number
part_of (piece.Title title) = TitlePart title.now
part_of piece.StyleSheet = StylePart
part_of (piece.Chart chart) = ChartPart (drawing_of chart)
part_of (piece.Meter width) = MeterPart width

abbrev pub part_html : Part → List ℕ
part_html (MarkupPart markup) = markup_html markup
part_html (LogPart style text) = passage_html text_kind.Log style text
part_html (TextPart text) = passage_html text_kind.Monochrome plain_style text
part_html (NumberPart number) = number_text number
part_html (TitlePart title) = codes "<title>" ++ passage_html text_kind.Title plain_style title ++ codes "</title>"
part_html StylePart = codes "<style>" ++ style_sheet ++ codes "</style>"
part_html (ChartPart drawing) = nodes_html (drawing_nodes drawing)
part_html (MeterPart width) = nodes_html (meter_nodes width)

abbrev pub part_tokens : Part → List Token
part_tokens (MarkupPart markup) = Tag (markup_text markup) ∷ []
part_tokens (LogPart style text) = passage_tokens text_kind.Log style text
part_tokens (TextPart text) = passage_tokens text_kind.Monochrome plain_style text
part_tokens (NumberPart number) = map Character (number_text number)
part_tokens (TitlePart title) = Tag (codes "title") ∷ (passage_tokens text_kind.Title plain_style title ++ Tag (codes "/title") ∷ [])
part_tokens StylePart = Tag (codes "style") ∷ (map Character style_sheet ++ Tag (codes "/style") ∷ [])
part_tokens (ChartPart drawing) = nodes_tokens (drawing_nodes drawing)
part_tokens (MeterPart width) = nodes_tokens (meter_nodes width)

-- The text of a part, as a reader sees it: of a chart, its ticks, tooltips and labels. A browser doesn't show the text of a style sheet.
abbrev pub part_text : Part → List ℕ
part_text (MarkupPart markup) = []
part_text (LogPart style text) = shown_text text_kind.Log text
part_text (TextPart text) = shown_text text_kind.Monochrome text
part_text (NumberPart number) = number_text number
part_text (TitlePart title) = shown_text text_kind.Title title
part_text StylePart = style_sheet
part_text (ChartPart drawing) = nodes_text (drawing_nodes drawing)
part_text (MeterPart width) = []
