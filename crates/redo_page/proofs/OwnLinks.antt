-- The links of an article lead to the log of its target.
use Rattle.std.proofs.Common.{◌≡◌, ℕ, Bool, true, false, List, [], ◌∷◌, ◌++◌, length, refl, ◌∙◌, ap}
use Rattle.std.specs.Prelude.{◌==◌, if◌then◌else◌}
use Rattle.std.specs.List.{flat_map, list_all}
use Rattle.std.proofs.lemmas.Bool.{and_from, eq-eqb}
use Rattle.std.proofs.lemmas.List.Folds.{list_all-append}
use Rattle.std.proofs.lemmas.Grind.{flat_map-append}
use Rattle.redo_html.specs.declared.markup.Markup.TheVariants as markup
use Rattle.redo_html.specs.declared.style.Style.{Style}
use Rattle.redo_html.specs.Lines.{style_after}
use Rattle.redo_html.specs.Parts.{Part}
use Rattle.redo_html.specs.Parts.Part.{MarkupPart, LogPart, TextPart}
use Rattle.redo_html.specs.Style.{plain_style}
use Rattle.redo_line.specs.Lines.{with_line_feed}
use Rattle.redo_facts.specs.Facts.{RecipeFacts}
use Rattle.redo_logs.specs.Logs.{Log}
use Rattle.redo_outline.specs.declared.node.Node.{Node}
use Rattle.redo_page.specs.declared.labels.TheConstants.{PLACE_IN_TREE}
use Rattle.redo_page.specs.Article.{article_of, article_parts, article_took, max_path, name_of, nothing_parts, output_line_parts, output_parts, path_parts, printed_by, whole_parts}
use Rattle.redo_page.specs.Errors.{is_error}
use Rattle.redo_page.specs.Excerpt.{Stretch, cut_to, emphasized_if, error_position, excerpt_line_end, excerpt_line_parts, excerpt_parts, in_tree_parts, is_kept, left_out_parts, max_excerpt_line, stretch_parts, stretches_from}
use Rattle.redo_page.specs.Excerpt.Stretch.{Shown, LeftOut}
use Rattle.redo_page.specs.Laws.{target_link}
use Rattle.redo_page.proofs.PartNames.{target_links}
use Rattle.redo_page.specs.Recipe.{recipe_at, recipe_parts}
use Rattle.redo_page.specs.Targets.{badge_parts, name_parts}
use Rattle.redo_page.specs.Tree.{is_short, node_at}
use Rattle.redo_page.proofs.FailedIds.{article_took_bare, path_bare}
use Rattle.redo_page.proofs.Ids.{Bare, badge_bare, same_found, target_link_part}
use Rattle.redo_page.proofs.RecipeLemmas.{recipe_bare}

module _ (logs : List Log) (nodes : List Node) (recipes : List RecipeFacts) (position : ℕ) where
  -- Each link to a log in these parts leads to this position.
  abbrev Own : List Part → Type 0
  Own parts = list_all (λ number. number == position) (target_links parts) ≡ true

  own_then : (parts others : List Part) → Own parts → Own others → Own (parts ++ others)
  own_then parts others own more =
      ap (list_all (λ number. number == position)) (flat_map-append target_link parts others)
      ∙ list_all-append (λ number. number == position) (target_links parts) (target_links others)
      ∙ and_from (list_all (λ number. number == position) (target_links parts))
      (list_all (λ number. number == position) (target_links others)) own more

  own_each : {X : Type 0} (f : X → List Part) → ((x : X) → Own (f x)) → (xs : List X) → Own (flat_map f xs)
  own_each f each [] = refl
  own_each f each (x ∷ xs) = own_then (f x) (flat_map f xs) (each x) (own_each f each xs)

  own_bare : (parts : List Part) → Bare parts → Own parts
  own_bare parts bare = ap (list_all (λ number. number == position)) (same_found target_link target_link_part parts [] bare)

  own_link : list_all (λ number. number == position) (position ∷ []) ≡ true
  own_link = and_from (position == position) true (eq-eqb position position refl) refl

  in_tree_own : (text : List ℕ) → Own (in_tree_parts position text)
  unfolding in_tree_parts
  in_tree_own text = own_link

  left_out_own : (count : ℕ) → Own (left_out_parts position count)
  unfolding left_out_parts in_tree_parts
  left_out_own count = own_link

  emphasized_own : (condition : Bool) (parts : List Part) → Own parts → Own (emphasized_if condition parts)
  emphasized_own true parts own = own_then parts (MarkupPart markup.EndEmphasis ∷ []) own refl
  emphasized_own false parts own = own

  excerpt_line_own : (line : List ℕ) → Own (excerpt_line_parts line)
  unfolding excerpt_line_parts
  excerpt_line_own line =
      emphasized_own (is_error line) (LogPart plain_style (cut_to max_excerpt_line line) ∷ TextPart (excerpt_line_end line) ∷ []) refl

  stretch_own : (stretch : Stretch) → Own (stretch_parts position stretch)
  stretch_own (Shown lines) =
      own_then (flat_map excerpt_line_parts lines) (MarkupPart markup.EndPre ∷ []) (own_each excerpt_line_parts excerpt_line_own lines) refl
  stretch_own (LeftOut count) = left_out_own count

  excerpt_own : (lines : List (List ℕ)) → Own (excerpt_parts position lines)
  unfolding excerpt_parts
  excerpt_own lines =
      own_each (stretch_parts position) stretch_own (stretches_from (is_kept (length lines) (error_position lines)) 0 lines)

  lines_own : (style : Style) (lines : List (List ℕ)) → Own (output_line_parts style lines)
  lines_own style [] = refl
  lines_own style (line ∷ lines) =
      own_then (emphasized_if (is_error line) (LogPart style (with_line_feed line) ∷ []))
      (output_line_parts (style_after style (with_line_feed line)) lines)
      (emphasized_own (is_error line) (LogPart style (with_line_feed line) ∷ []) refl)
      (lines_own (style_after style (with_line_feed line)) lines)

  whole_own : (lines : List (List ℕ)) → Own (whole_parts lines)
  unfolding whole_parts
  whole_own lines = own_then (output_line_parts plain_style lines) (MarkupPart markup.EndPre ∷ []) (lines_own plain_style lines) refl

  nothing_own : (node : Node) → Own (nothing_parts node)
  unfolding nothing_parts
  nothing_own node = refl

  output_own : (node : Node) → Own (output_parts logs position node)
  unfolding output_parts
  output_own node = by (node.lines == 0) (is_short node)
    where
      by : (none short : Bool) → Own (if none then nothing_parts node else if short then whole_parts (printed_by logs node)
          else excerpt_parts position (printed_by logs node))
      by true short = nothing_own node
      by false true = whole_own (printed_by logs node)
      by false false = excerpt_own (printed_by logs node)

  article_of_own : (node : Node) → Own (article_of logs nodes recipes position node)
  unfolding article_of
  article_of_own node =
      let levels = max_path logs nodes in
      let output = output_parts logs position node ++ MarkupPart markup.EndArticle ∷ [] in
      let recipe = recipe_parts (recipe_at recipes node.number) in
      let link = in_tree_parts position PLACE_IN_TREE.now ++ MarkupPart markup.EndParagraph ∷ (recipe ++ output) in
      let path = path_parts logs nodes levels node.parent ++ link in
      let took = article_took node.took ++ path in
      let name = name_parts (name_of logs node) in
      let status = MarkupPart markup.EndTitle3 ∷ MarkupPart markup.MetaParagraph ∷ took in
      own_then name (badge_parts node.status ++ status) refl
      (own_then (badge_parts node.status) status (own_bare (badge_parts node.status) (badge_bare node.status))
      (own_then (article_took node.took) path (own_bare (article_took node.took) (article_took_bare node.took))
      (own_then (path_parts logs nodes levels node.parent) link
      (own_bare (path_parts logs nodes levels node.parent) (path_bare logs nodes levels node.parent))
      (own_then (in_tree_parts position PLACE_IN_TREE.now) (MarkupPart markup.EndParagraph ∷ (recipe ++ output))
      (in_tree_own PLACE_IN_TREE.now)
      (own_then recipe output (own_bare recipe (recipe_bare (recipe_at recipes node.number)))
      (own_then (output_parts logs position node) (MarkupPart markup.EndArticle ∷ []) (output_own node) refl))))))

  pub article_links_are_own : Own (article_parts logs nodes recipes position)
  unfolding article_parts
  article_links_are_own = article_of_own (node_at nodes position)
