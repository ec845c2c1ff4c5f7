-- What the elements of a page contain: the section of the tree, the logs in it, and the articles.
use Rattle.std.proofs.Common.{◌≡◌, ℕ, Bool, true, false, List, [], ◌∷◌, ◌++◌, inl, inr, refl, sym, ◌∙◌, ap, subst}
use Rattle.std.specs.Prelude.{◌==◌, ◌||◌, nat_eq}
use Rattle.std.specs.List.{IsDistinct, flat_map}
use Rattle.std.proofs.lemmas.Bool.{eq-eqb}
use Rattle.std.proofs.lemmas.List.{append_assoc}
use Rattle.std.proofs.lemmas.List.Folds.{list_any-append}
use Rattle.redo_html.specs.declared.markup.Markup.{Markup}
use Rattle.redo_html.specs.declared.markup.Markup.TheVariants as markup
use Rattle.redo_html.specs.Parts.{Part}
use Rattle.redo_html.specs.Parts.Part.{MarkupPart}
use Rattle.redo_logs.specs.Logs.{Log}
use Rattle.redo_outline.specs.declared.node.Node.{Node}
use Rattle.redo_page.specs.declared.block.Pending.TheVariants as pending
use Rattle.redo_page.specs.Frame.{footer_parts}
use Rattle.redo_page.specs.Laws.{IsArticle, IsInside, IsLog, IsPartOf, IsTree, article_id, kept_lines, kept_within, positioned_bytes, unmoved_lines}
use Rattle.redo_page.proofs.PartNames.{log_bytes, page_build}
use Rattle.redo_page.specs.Page.{Request, options_of, page_contents, page_outline, page_parts, page_view, top_parts}
use Rattle.redo_page.specs.Private.Streaming.{contents_parts, streamed_tree}
use Rattle.redo_page.specs.Scope.{View}
use Rattle.redo_page.specs.Timeline.{timeline_parts}
use Rattle.redo_page.specs.Tree.{articles, top_level, is_among}
use Rattle.redo_page.proofs.ElementLemmas.{ShowsItsLines, tree_shows}
use Rattle.redo_page.proofs.ElementParts.{around_items, article_inside, article_is, tree_inside, tree_is}
use Rattle.redo_page.proofs.FailedNesting.{article_inside_nests}
use Rattle.redo_page.proofs.FailedOrder.{articles_distinct}
use Rattle.redo_page.proofs.InsideLemmas.{Closed, nest_closed, same_inside}
use Rattle.redo_page.proofs.Nesting.{Nest, joined}
use Rattle.redo_page.proofs.PageIds.{HavePositions, HavePositionsOfMemory, KeepLogs, after_tree, before_tree, one_tree, page_article_ids, tree_tag}
use Rattle.redo_page.proofs.PageNames.{page_placed}
use Rattle.redo_page.proofs.PagePartLemmas.{page_has_article, page_has_tree}
use Rattle.redo_page.proofs.TimelineLemmas.{BarsLead}
use Rattle.redo_page.proofs.TreeItems.{items_are_streamed, tree_is_streamed}
use Rattle.redo_page.proofs.TreeNesting.{contents_lead}

later : (one other : Bool) → other ≡ true → (one || other) ≡ true
later true other is = refl
later false other is = is

-- The id of an article is among the ids of articles in parts with its tag.
among_ids : (position : ℕ) (before rest : List Part)
    → is_among (flat_map article_id (before ++ (MarkupPart (markup.Article position) ∷ rest))) position ≡ true
among_ids position [] rest =
    ap (λ (is : Bool). is || is_among (flat_map article_id rest) position) (eq-eqb position position refl)
among_ids position (part ∷ before) rest =
    let others = flat_map article_id (before ++ (MarkupPart (markup.Article position) ∷ rest)) in
    list_any-append (λ other. position == other) (article_id part) others
    ∙ later (is_among (article_id part) position) (is_among others position) (among_ids position before rest)

module _ (request : Request) (logs : List Log) (requested : List (List ℕ)) where
  abbrev nodes : List Node
  nodes = page_outline request logs requested

  abbrev parts : List Part
  parts = page_parts request logs requested

  abbrev view : View
  view = page_view request logs requested

  -- ---- what the elements contain

  abbrev pub in_tree_section : List Part
  in_tree_section = tree_inside logs (options_of request) nodes (page_contents request logs requested)

  abbrev pub in_article_of : ℕ → List Part
  in_article_of position = article_inside logs nodes request.recipes position

  tree_closed : Closed in_tree_section
  tree_closed =
      subst (λ (items : List Part). Closed (around_items logs (options_of request) nodes (page_contents request logs requested) items))
      (sym (items_are_streamed request logs requested)) (nest_closed nest)
    where
      nest : Nest (around_items logs (options_of request) nodes (page_contents request logs requested)
          (contents_parts (page_build request logs requested) top_level 0 pending.Nothing (page_contents request logs requested)))
      nest = record {
        leads = λ around tags. simp (
          joined,
          (contents_lead (page_build request logs requested) top_level 0 pending.Nothing (page_contents request logs requested) tt).leads,
        );
      }

  pub has_tree : IsTree request logs requested in_tree_section
  has_tree = (
    subst (λ (tree : List Part). IsPartOf tree parts) (tree_is logs (options_of request) nodes (page_contents request logs requested))
        (page_has_tree request logs requested),
    tree_closed,
  )

  pub has_article : (position : ℕ) → is_among (articles nodes) position ≡ true
      → IsArticle request logs requested position (in_article_of position)
  has_article position among = (
    subst (λ (article : List Part). IsPartOf article parts) (article_is logs nodes request.recipes position)
        (page_has_article request logs requested position among),
    nest_closed (article_inside_nests logs nodes request.recipes position),
  )

  -- ---- no others do

  module _ (have : HavePositions) (memory : HavePositionsOfMemory) (lead : BarsLead) (keep : KeepLogs) where
    pub only_tree : (inside : List Part) → IsTree request logs requested inside → inside ≡ in_tree_section
    unfolding IsDistinct
    only_tree inside is =
        same_inside tree_tag 0 markup.TreeSection markup.EndSection refl (λ rest. refl)
        (subst (IsDistinct nat_eq) (sym (one_tree have memory lead keep request logs requested)) (tt, tt)) is has_tree

    -- The page has only the articles of `articles`.
    article_among : (position : ℕ) (inside : List Part) → IsArticle request logs requested position inside
        → is_among (articles nodes) position ≡ true
    article_among position inside is =
        ap (λ (ids : List ℕ). is_among ids position) (sym (page_article_ids have memory lead keep request logs requested))
        ∙ (ap (λ (whole : List Part). is_among (flat_map article_id whole) position) (sym is.0.splits)
        ∙ among_ids position is.0.before ((inside ++ MarkupPart markup.EndArticle ∷ []) ++ is.0.after))

    pub only_article : (position : ℕ) (inside : List Part) → IsArticle request logs requested position inside
        → inside ≡ in_article_of position
    only_article position inside is =
        same_inside article_id position (markup.Article position) markup.EndArticle refl (λ rest. refl)
        (subst (IsDistinct nat_eq) (sym (page_article_ids have memory lead keep request logs requested)) (articles_distinct nodes)) is
        (has_article position (article_among position inside is))

    -- ---- logs

    abbrev front : List Part
    front = top_parts view ++ timeline_parts view

    abbrev whole : List Part
    whole = front ++ (streamed_tree logs (options_of request) nodes (page_contents request logs requested) ++ footer_parts view)

    page_streamed : parts ≡ whole
    unfolding page_parts
    page_streamed =
        ap (λ (tree : List Part). top_parts view ++ ((timeline_parts view ++ tree) ++ footer_parts view))
        (tree_is_streamed request logs requested)
        ∙ regroup (top_parts view) (timeline_parts view)
        (streamed_tree logs (options_of request) nodes (page_contents request logs requested)) (footer_parts view)
      where
        regroup : (a b c d : List Part) → a ++ ((b ++ c) ++ d) ≡ (a ++ b) ++ (c ++ d)
        regroup a b c d = simp (append_assoc)

    shows_lines : (tag : Markup) (inside : List Part) → IsInside tag markup.EndDetails inside parts
        → ShowsItsLines (page_build request logs requested) (kept_lines request logs requested) tag inside
    shows_lines tag inside is =
        tree_shows logs (options_of request) nodes (page_contents request logs requested) (page_placed request logs requested) front
        (footer_parts view) (before_tree have memory lead keep request logs requested)
        (after_tree have memory lead keep request logs requested) tag inside
        (subst (IsInside tag markup.EndDetails inside) page_streamed is)

    pub log_shows : (position : ℕ) (inside : List Part) → IsLog request logs requested position inside
        → log_bytes inside
        ≡ positioned_bytes (unmoved_lines (page_outline request logs requested) (kept_within request logs requested position))
    log_shows position inside (inl closed) = shows_lines (markup.Details position) inside closed
    log_shows position inside (inr expanded) = shows_lines (markup.OpenDetails position) inside expanded
