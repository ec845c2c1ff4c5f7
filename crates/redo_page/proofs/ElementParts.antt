-- What the elements of a page contain: its articles, and the section of the tree.
use Rattle.std.proofs.Common.{◌≡◌, ℕ, List, [], ◌∷◌, ◌++◌, drop, sym, ◌∙◌, ap}
use Rattle.std.specs.List.{flat_map}
use Rattle.std.proofs.lemmas.Grind.{flat_map-append}
use Rattle.std.proofs.lemmas.List.{append_assoc, append-nil}
use Rattle.redo_facts.specs.Facts.{RecipeFacts}
use Rattle.redo_html.specs.declared.markup.Markup.TheVariants as markup
use Rattle.redo_html.specs.Parts.{Part}
use Rattle.redo_html.specs.Parts.Part.{MarkupPart}
use Rattle.redo_logs.specs.Logs.{Log}
use Rattle.redo_options.specs.declared.options.Options.{Options}
use Rattle.redo_outline.specs.declared.node.Node.{Node}
use Rattle.redo_outline.specs.Contents.{Contents}
use Rattle.redo_page.specs.declared.labels.TheConstants.{PLACE_IN_TREE}
use Rattle.redo_page.specs.Article.{article_of, article_parts, article_took, max_path, name_of, output_parts, path_parts}
use Rattle.redo_page.specs.Excerpt.{in_tree_parts}
use Rattle.redo_page.specs.Recipe.{recipe_at, recipe_parts}
use Rattle.redo_page.specs.Targets.{badge_parts, name_parts}
use Rattle.redo_page.specs.Tree.{Build, articles, items_of, items_parts, node_at, section_start, top_level, tree_parts}

-- What is found in an element, and in its contents.
pub found_inside : {X : Type 0} (f : Part → List X) (start end : Part) (inside : List Part) → f start ≡ [] → f end ≡ []
    → flat_map f (start ∷ (inside ++ end ∷ [])) ≡ flat_map f inside
found_inside {X} f start end inside first last =
    ap (λ (t : List X). t ++ flat_map f (inside ++ end ∷ [])) first ∙ flat_map-append f inside (end ∷ [])
    ∙ ap (λ (t : List X). flat_map f inside ++ (t ++ [])) last ∙ append-nil (flat_map f inside)

-- ---- articles

module _ (logs : List Log) (nodes : List Node) (recipes : List RecipeFacts) (position : ℕ) where
  abbrev node : Node
  node = node_at nodes position

  abbrev pub article_inside : List Part
  article_inside =
      MarkupPart markup.Title3
      ∷ (name_parts (name_of logs node)
      ++ (badge_parts node.status
      ++ (MarkupPart markup.EndTitle3 ∷ MarkupPart markup.MetaParagraph
      ∷ (article_took node.took
      ++ (path_parts logs nodes (max_path logs nodes) node.parent
      ++ (in_tree_parts position PLACE_IN_TREE.now
      ++ (MarkupPart markup.EndParagraph ∷ (recipe_parts (recipe_at recipes node.number) ++ output_parts logs position node))))))))

  pub article_is : article_parts logs nodes recipes position
      ≡ MarkupPart (markup.Article position) ∷ (article_inside ++ MarkupPart markup.EndArticle ∷ [])
  unfolding article_parts article_of
  article_is =
      ap (λ (t : List Part). MarkupPart (markup.Article position) ∷ MarkupPart markup.Title3 ∷ t)
      (regroup (name_parts (name_of logs node)) (badge_parts node.status)
      (MarkupPart markup.EndTitle3 ∷ MarkupPart markup.MetaParagraph ∷ []) (article_took node.took)
      (path_parts logs nodes (max_path logs nodes) node.parent) (in_tree_parts position PLACE_IN_TREE.now)
      (MarkupPart markup.EndParagraph ∷ []) (recipe_parts (recipe_at recipes node.number)) (output_parts logs position node)
      (MarkupPart markup.EndArticle ∷ []))
    where
      regroup : (a b c d e f g h i j : List Part)
          → a ++ (b ++ (c ++ (d ++ (e ++ (f ++ (g ++ (h ++ (i ++ j))))))))
          ≡ (a ++ (b ++ (c ++ (d ++ (e ++ (f ++ (g ++ (h ++ i)))))))) ++ j
      regroup a b c d e f g h i j = simp (append_assoc)

  pub in_article : {X : Type 0} (f : Part → List X) → f (MarkupPart (markup.Article position)) ≡ [] → f (MarkupPart markup.EndArticle) ≡ []
      → flat_map f article_inside ≡ flat_map f (article_parts logs nodes recipes position)
  in_article f first last =
      sym (ap (flat_map f) article_is
      ∙ found_inside f (MarkupPart (markup.Article position)) (MarkupPart markup.EndArticle) article_inside first last)

-- ---- the tree

module _ (logs : List Log) (options : Options) (nodes : List Node) (contents : Contents) where
  abbrev build : Build
  build = record { logs = logs; options = options; nodes = nodes; articles = articles nodes }

  -- The parts of the items of the tree, and what is around them in its section.
  abbrev pub around_items : List Part → List Part
  around_items items = drop 1 section_start ++ (items ++ MarkupPart markup.EndUnordered ∷ [])

  abbrev pub tree_inside : List Part
  tree_inside = around_items (items_parts build top_level (items_of build top_level 0 contents))

  pub tree_is : tree_parts logs options nodes contents
      ≡ MarkupPart markup.TreeSection ∷ (tree_inside ++ MarkupPart markup.EndSection ∷ [])
  tree_is =
      ap (λ (t : List Part). MarkupPart markup.TreeSection ∷ t)
      (regroup (drop 1 section_start) (items_parts build top_level (items_of build top_level 0 contents))
      (MarkupPart markup.EndUnordered ∷ []) (MarkupPart markup.EndSection ∷ []))
    where
      regroup : (a b c d : List Part) → a ++ (b ++ (c ++ d)) ≡ (a ++ (b ++ c)) ++ d
      regroup a b c d = simp (append_assoc)

  pub in_tree : {X : Type 0} (f : Part → List X) → f (MarkupPart markup.TreeSection) ≡ [] → f (MarkupPart markup.EndSection) ≡ []
      → flat_map f tree_inside ≡ flat_map f (tree_parts logs options nodes contents)
  in_tree f first last =
      sym (ap (flat_map f) tree_is
      ∙ found_inside f (MarkupPart markup.TreeSection) (MarkupPart markup.EndSection) tree_inside first last)
