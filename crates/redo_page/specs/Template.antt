-- The parts of a template.
use Rattle.std.specs.Prelude.{ℕ, List, [], ◌∷◌, not, Some, take}
use Rattle.std.specs.List.{flat_map}
use Rattle.redo_html.specs.declared.markup.Markup.TheVariants as markup
use Rattle.redo_html.specs.Parts.{Part}
use Rattle.redo_html.specs.Parts.Part.{MarkupPart, MeterPart, TextPart, NumberPart, TitlePart, StylePart}
use Rattle.redo_page.specs.declared.template.Around.{Around}
use Rattle.redo_page.specs.declared.template.Around.TheVariants.{If, Unless, Each, EachTarget, EachOf}
use Rattle.redo_page.specs.declared.template.Item.{Item}
use Rattle.redo_page.specs.declared.template.Item.TheVariants as item
use Rattle.redo_page.specs.declared.scope.Listed.TheVariants as listed
use Rattle.redo_page.specs.Article.{article_parts, cause_of_node, line_of_node}
use Rattle.redo_page.specs.Scope.{View, began_parts, count_of, holds, max_rows, measure_words, share_of_largest, phrase_text, position_view, positions_of, row_name, row_view, rows_of, target_view}
use Rattle.redo_page.specs.Targets.{article_link_parts, badge_parts, linked_parts, name_parts, parts_if}
use Rattle.redo_page.specs.Verdict.{body_markup}
use Rattle.redo_page.specs.Words.{words_parts}

abbrev pub tile_start : List ℕ → List Part
tile_start term =
    MarkupPart markup.Div ∷ MarkupPart markup.Term ∷ TextPart term ∷ MarkupPart markup.EndTerm ∷ MarkupPart markup.Description ∷ []

abbrev pub tile_end : List Part
tile_end = MarkupPart markup.EndDescription ∷ MarkupPart markup.EndDiv ∷ []

module _ {B : Type 0} (inner : B → View → List Part) (view : View) where
  abbrev pub around_parts : Around → B → List Part
  around_parts (If test) block = parts_if (holds view test) (inner block view)
  around_parts (Unless test) block = parts_if (not (holds view test)) (inner block view)
  around_parts (Each rows) block = flat_map (λ rank. inner block (row_view view (rows_of view rows) rank)) (rows_of view rows)
  around_parts EachTarget block = flat_map (λ node. inner block (target_view view node)) view.nodes
  around_parts (EachOf these) block = flat_map (λ position. inner block (position_view view position)) (take max_rows (positions_of view these))

module _ {T B : Type 0} (text_of : T → List ℕ) (inner : B → View → List Part) (view : View) where
  abbrev pub parts_of_item : Item T B → List Part
  parts_of_item (item.Tag markup) = MarkupPart markup ∷ []
  parts_of_item item.Body = MarkupPart (body_markup view.verdict) ∷ []
  parts_of_item item.TabTitle = TitlePart view.tab ∷ []
  parts_of_item item.StyleSheet = StylePart ∷ []
  parts_of_item (item.Text text) = TextPart (text_of text) ∷ []
  parts_of_item (item.Phrase phrase) = TextPart (phrase_text view phrase) ∷ []
  parts_of_item item.Date = began_parts view.facts.window
  parts_of_item (item.Tile term) = tile_start (text_of term)
  parts_of_item item.EndTile = tile_end
  parts_of_item (item.Number count) = NumberPart (count_of view count) ∷ []
  parts_of_item (item.Measure measure) = words_parts (measure_words view measure)
  parts_of_item item.Name = name_parts (row_name view)
  parts_of_item item.Link = linked_parts (Some view.rank.position) (row_name view)
  parts_of_item item.ArticleLink = article_link_parts view.rank.position (row_name view)
  parts_of_item item.Badge = badge_parts view.node.status
  parts_of_item item.Cause = cause_of_node view.logs view.node
  parts_of_item item.Line = line_of_node view.logs view.node view.rank.value
  parts_of_item item.Articles = flat_map (article_parts view.logs view.nodes view.recipes) (positions_of view listed.Articles)
  parts_of_item item.Meter = MeterPart (share_of_largest view) ∷ []
  parts_of_item (item.In around block) = around_parts inner view around block

  abbrev pub parts_of_items : List (Item T B) → List Part
  parts_of_items items = flat_map parts_of_item items

abbrev pub nothing : Unit {0} → View → List Part
nothing block view = []

-- Items that contain these.
abbrev pub Block : Type 0 → Type 0
Block B = record { now : List (Item (record { now : List ℕ }) B) }

abbrev pub block_parts : {B : Type 0} → (B → View → List Part) → Block B → View → List Part
block_parts inner block view = parts_of_items (λ text. text.now) inner view block.now

-- Four levels of items.
abbrev pub Template : Type 0
Template = Block (Block (Block (Block (Unit {0}))))

abbrev pub template_parts : Template → View → List Part
template_parts = block_parts (block_parts (block_parts (block_parts nothing)))
