-- The elements of articles and causes nest.
use Rattle.std.proofs.Common.{ℕ, zero, suc, Bool, true, false, List, [], ◌∷◌, ◌++◌, Option, None, Some, refl, sym, subst}
use Rattle.std.specs.Prelude.{◌==◌, length, slice_get, if◌then◌else◌}
use Rattle.redo_facts.specs.Facts.{RecipeFacts}
use Rattle.redo_logs.specs.Logs.{Log}
use Rattle.redo_html.specs.declared.style.Style.{Style}
use Rattle.redo_html.specs.Lines.{style_after}
use Rattle.redo_html.specs.Parts.{Part}
use Rattle.redo_html.specs.declared.markup.Markup.TheVariants as markup
use Rattle.redo_html.specs.Parts.Part.{LogPart, MarkupPart, TextPart}
use Rattle.redo_html.specs.Style.{plain_style}
use Rattle.redo_line.specs.Lines.{with_line_feed}
use Rattle.redo_outline.specs.declared.node.Node.{Node}
use Rattle.redo_page.specs.declared.labels.TheConstants.{MIDDLE_DOT, PLACE_IN_TREE}
use Rattle.redo_page.specs.Errors.{cause_of, is_error}
use Rattle.redo_page.specs.Excerpt.{Stretch, cut_to, emphasized_if, error_position, excerpt_line_end, excerpt_line_parts, excerpt_parts, in_tree_parts, is_kept, left_out_parts, max_excerpt_line, stretch_parts, stretches_from}
use Rattle.redo_page.specs.Excerpt.Stretch.{Shown, LeftOut}
use Rattle.redo_units.specs.Durations.{duration_words}
use Rattle.redo_page.specs.Article.{article_parts, article_took, cause_of_node, cause_parts, line_of_node, max_path, nothing_parts, output_line_parts, output_parts, path_parts, printed_by, whole_parts}
use Rattle.redo_page.specs.Recipe.{recipe_at}
use Rattle.redo_page.specs.Tree.{is_short, node_at}
use Rattle.redo_page.proofs.ElementParts.{article_inside, article_is}
use Rattle.redo_page.proofs.Nesting.{Nest, nest_each, then_lead, joined}
use Rattle.redo_page.proofs.RecipeLemmas.{recipe_nests}
use Rattle.redo_page.proofs.TargetNesting.{badge_nests, words_nest}

in_tree_nests : (position : ℕ) (text : List ℕ) → Nest (in_tree_parts position text)
unfolding in_tree_parts
in_tree_nests position text = record { leads = λ around tags. refl }

left_out_nests : (position count : ℕ) → Nest (left_out_parts position count)
unfolding left_out_parts in_tree_parts
left_out_nests position count = record { leads = λ around tags. refl }

emphasized_nests : (condition : Bool) {parts : List Part} → Nest parts → Nest (emphasized_if condition parts)
emphasized_nests true nest = record { leads = λ around tags. simp (joined, nest.leads) }
emphasized_nests false nest = nest

excerpt_line_nests : (line : List ℕ) → Nest (excerpt_line_parts line)
unfolding excerpt_line_parts
excerpt_line_nests line =
    emphasized_nests (is_error line) {parts = LogPart plain_style (cut_to max_excerpt_line line) ∷ TextPart (excerpt_line_end line) ∷ []}
    (record { leads = λ around tags. refl })

stretch_nests : (position : ℕ) (stretch : Stretch) → Nest (stretch_parts position stretch)
stretch_nests position (Shown lines) =
    record { leads = λ around tags. simp (joined, (nest_each excerpt_line_parts excerpt_line_nests lines).leads) }
stretch_nests position (LeftOut count) = left_out_nests position count

excerpt_nests : (position : ℕ) (lines : List (List ℕ)) → Nest (excerpt_parts position lines)
unfolding excerpt_parts
excerpt_nests position lines = nest_each (stretch_parts position) (stretch_nests position)
    (stretches_from (is_kept (length lines) (error_position lines)) 0 lines)

lines_nest : (style : Style) (lines : List (List ℕ)) → Nest (output_line_parts style lines)
lines_nest style [] = record { leads = λ around tags. refl }
lines_nest style (line ∷ lines) =
    then_lead (emphasized_nests (is_error line) {parts = LogPart style (with_line_feed line) ∷ []} (record { leads = λ around tags. refl }))
    (lines_nest (style_after style (with_line_feed line)) lines)

whole_nests : (lines : List (List ℕ)) → Nest (whole_parts lines)
unfolding whole_parts
whole_nests lines = record { leads = λ around tags. simp (joined, (lines_nest plain_style lines).leads) }

nothing_nests : (node : Node) → Nest (nothing_parts node)
unfolding nothing_parts
nothing_nests node = record { leads = λ around tags. refl }

cause_nests : (line : Option (List ℕ)) → Nest (cause_parts line)
unfolding cause_parts
cause_nests None = record { leads = λ around tags. refl }
cause_nests (Some line) = record { leads = λ around tags. refl }

module _ (logs : List Log) where
  output_nests : (position : ℕ) (node : Node) → Nest (output_parts logs position node)
  unfolding output_parts
  output_nests position node = by (node.lines == 0) (is_short node)
    where
      by : (none short : Bool) → Nest (if none then nothing_parts node else if short then whole_parts (printed_by logs node)
          else excerpt_parts position (printed_by logs node))
      by true short = nothing_nests node
      by false true = whole_nests (printed_by logs node)
      by false false = excerpt_nests position (printed_by logs node)

  pub cause_of_node_nests : (node : Node) → Nest (cause_of_node logs node)
  unfolding cause_of_node
  cause_of_node_nests node = cause_nests (cause_of (printed_by logs node))

  pub line_of_node_nests : (node : Node) (position : ℕ) → Nest (line_of_node logs node position)
  unfolding line_of_node
  line_of_node_nests node position = cause_nests (slice_get (printed_by logs node) position)

article_took_nests : (took : Option ℕ) → Nest (article_took took)
article_took_nests None = record { leads = λ around tags. refl }
article_took_nests (Some ms) = words_nest {inside = []} [] (TextPart MIDDLE_DOT.now ∷ []) (duration_words ms)
    (record { leads = λ around tags. refl }) (record { leads = λ around tags. refl })

module _ (logs : List Log) (nodes : List Node) where
  path_nests : (levels : ℕ) (position : Option ℕ) → Nest (path_parts logs nodes levels position)
  unfolding path_parts
  path_nests levels None = record { leads = λ around tags. refl }
  path_nests zero (Some position) = record { leads = λ around tags. refl }
  path_nests (suc levels) (Some position) =
      then_lead (path_nests levels (node_at nodes position).parent) (record { leads = λ around tags. refl })

in_article : (position : ℕ) {inside : List Part} → Nest inside
    → Nest (MarkupPart (markup.Article position) ∷ (inside ++ MarkupPart markup.EndArticle ∷ []))
in_article position nest = record { leads = λ around tags. simp (joined, nest.leads) }

module _ (logs : List Log) (nodes : List Node) (recipes : List RecipeFacts) where
  pub article_inside_nests : (position : ℕ) → Nest (article_inside logs nodes recipes position)
  article_inside_nests position =
      let node = node_at nodes position in
      record {
        leads = λ around tags. simp (
          joined,
          (badge_nests node.status).leads,
          (article_took_nests node.took).leads,
          (path_nests logs nodes (max_path logs nodes) node.parent).leads,
          (in_tree_nests position PLACE_IN_TREE.now).leads,
          (recipe_nests (recipe_at recipes node.number)).leads,
          (output_nests logs position node).leads,
        );
      }

  pub article_nests : (position : ℕ) → Nest (article_parts logs nodes recipes position)
  article_nests position = subst Nest (sym (article_is logs nodes recipes position)) (in_article position (article_inside_nests position))
