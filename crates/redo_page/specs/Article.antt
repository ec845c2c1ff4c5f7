-- The outputs of targets that failed, why they failed, and their articles.
use Rattle.std.specs.Prelude.{ℕ, zero, suc, ◌==◌, List, [], ◌∷◌, ◌++◌, Option, None, Some, codes, slice_get, if◌then◌else◌}
use Rattle.redo_facts.specs.Facts.{RecipeFacts}
use Rattle.redo_logs.specs.Logs.{Log}
use Rattle.redo_html.specs.declared.markup.Markup.TheVariants as markup
use Rattle.redo_html.specs.declared.style.Style.{Style}
use Rattle.redo_html.specs.Lines.{style_after}
use Rattle.redo_html.specs.Parts.{Part}
use Rattle.redo_html.specs.Parts.Part.{MarkupPart, LogPart, TextPart}
use Rattle.redo_html.specs.Style.{plain_style}
use Rattle.redo_line.specs.Lines.{with_line_feed}
use Rattle.redo_outline.specs.declared.node.Node.{Node}
use Rattle.redo_outline.specs.Facts.{entries_at, target_at, texts_of}
use Rattle.redo_page.specs.declared.labels.TheConstants.{MIDDLE_DOT, MORE_ABOVE, NOTHING_CAPTURED, NO_FAILURE_BELOW, PATH_SEPARATOR, PLACE_IN_TREE}
use Rattle.redo_page.specs.Errors.{cause_of, is_error}
use Rattle.redo_page.specs.Excerpt.{cut_to, emphasized_if, excerpt_parts, in_tree_parts}
use Rattle.redo_page.specs.Recipe.{recipe_at, recipe_parts}
use Rattle.redo_page.specs.Targets.{name_parts, badge_parts}
use Rattle.redo_page.specs.Tree.{is_short, node_at}
use Rattle.redo_page.specs.Words.{words_parts}
use Rattle.redo_units.specs.Durations.{duration_words}

-- ---- outputs

-- Lines of a log, of which the first begins with this style. Those that report errors are emphasized. The style at the end of a line goes on in
-- the next one.
abbrev pub output_line_parts : Style → List (List ℕ) → List Part
output_line_parts style [] = []
output_line_parts style (line ∷ lines) =
    emphasized_if (is_error line) (LogPart style (with_line_feed line) ∷ []) ++ output_line_parts (style_after style (with_line_feed line)) lines

-- The whole output of a target, in one block.
unfoldable pub whole_parts : List (List ℕ) → List Part
whole_parts lines = MarkupPart markup.Pre ∷ (output_line_parts plain_style lines ++ MarkupPart markup.EndPre ∷ [])

abbrev pub no_failure_below : ℕ → List ℕ
no_failure_below below = if below == 0 then [] else NO_FAILURE_BELOW.now

-- Instead of the output of a target that printed nothing.
unfoldable pub nothing_parts : Node → List Part
nothing_parts node =
    MarkupPart markup.QuietParagraph ∷ TextPart NOTHING_CAPTURED.now ∷ TextPart (no_failure_below node.below) ∷ MarkupPart markup.EndParagraph ∷ []

-- ---- causes

abbrev pub max_cause : ℕ
max_cause = 160

-- Why a target failed, in one line.
unfoldable pub cause_parts : Option (List ℕ) → List Part
cause_parts None = []
cause_parts (Some line) = TextPart (codes " ") ∷ MarkupPart markup.Code ∷ LogPart plain_style (cut_to max_cause line) ∷ MarkupPart markup.EndCode ∷ []

module _ (logs : List Log) where
  -- The output of a target.
  abbrev pub printed_by : Node → List (List ℕ)
  printed_by node = texts_of (entries_at node.number logs)

  abbrev pub name_of : Node → List ℕ
  name_of node = target_at logs node.number

  unfoldable pub output_parts : ℕ → Node → List Part
  output_parts position node =
      if node.lines == 0 then nothing_parts node
      else if is_short node then whole_parts (printed_by node)
      else excerpt_parts position (printed_by node)

  unfoldable pub cause_of_node : Node → List Part
  cause_of_node node = cause_parts (cause_of (printed_by node))

  -- The line of a target's log at a position, if there is one, as causes are shown.
  unfoldable pub line_of_node : Node → ℕ → List Part
  line_of_node node position = cause_parts (slice_get (printed_by node) position)

-- How long a target took, before its path.
abbrev pub article_took : Option ℕ → List Part
article_took None = []
article_took (Some ms) = words_parts (duration_words ms) ++ (TextPart MIDDLE_DOT.now ∷ [])

module _ (logs : List Log) (nodes : List Node) where
  -- The logs around a target, at most `levels` of them, the outermost first, with `›` (U+203A) after each; `…` (U+2026) if there are more.
  unfoldable pub path_parts : ℕ → Option ℕ → List Part
  path_parts levels None = []
  path_parts zero (Some position) = TextPart MORE_ABOVE.now ∷ []
  path_parts (suc levels) (Some position) =
      path_parts levels (node_at nodes position).parent ++ (name_parts (target_at logs (node_at nodes position).number) ++ TextPart PATH_SEPARATOR.now ∷ [])

  abbrev pub max_path : ℕ
  max_path = 4

module _ (logs : List Log) (nodes : List Node) (recipes : List RecipeFacts) where
  unfoldable pub article_of : ℕ → Node → List Part
  article_of position node =
      MarkupPart (markup.Article position) ∷ MarkupPart markup.Title3
      ∷ (name_parts (name_of logs node)
      ++ (badge_parts node.status
      ++ (MarkupPart markup.EndTitle3 ∷ MarkupPart markup.MetaParagraph
      ∷ (article_took node.took
      ++ (path_parts logs nodes (max_path logs nodes) node.parent
      ++ (in_tree_parts position PLACE_IN_TREE.now
      ++ (MarkupPart markup.EndParagraph
      ∷ (recipe_parts (recipe_at recipes node.number) ++ (output_parts logs position node ++ MarkupPart markup.EndArticle ∷ [])))))))))

  -- Where a target that failed is, its recipe, and what it printed.
  unfoldable pub article_parts : ℕ → List Part
  article_parts position = article_of position (node_at nodes position)
