-- The tree, the articles and the lists of what failed are parts of a page.
use Rattle.std.proofs.Common.{◌≡◌, ℕ, ◌<◌, Bool, true, false, List, [], ◌∷◌, ◌++◌, sym, ◌∙◌, ap, subst, inl, inr, ◌⊎◌, arith}
use Rattle.std.specs.Prelude.{◌==◌, drop, length, not, take}
use Rattle.std.specs.List.{flat_map}
use Rattle.std.proofs.lemmas.Bool.{eqb-true, lt-ltb, ne_eqb, or_cases}
use Rattle.std.proofs.lemmas.List.{append_assoc, append-nil, length-take, take_all}
use Rattle.redo_logs.specs.Logs.{Log}
use Rattle.redo_html.specs.declared.markup.Markup.{Markup}
use Rattle.redo_html.specs.declared.markup.Markup.TheVariants as markup
use Rattle.redo_html.specs.Parts.{Part}
use Rattle.redo_html.specs.Parts.Part.{MarkupPart, TextPart, NumberPart}
use Rattle.redo_page.specs.declared.failed.TheConstants.{DEPENDENTS, LIST, OTHERS, SECTION, UNCLOSED}
use Rattle.redo_page.specs.declared.labels.TheConstants.{AND, COUNT_NOT_CLOSED, FAILED_WITH_THESE, MORE_FAILED, MORE_IN_TREE}
use Rattle.redo_page.specs.declared.scope.Count.TheVariants.{All, Unlisted}
use Rattle.redo_page.specs.declared.scope.Listed.{Listed}
use Rattle.redo_page.specs.declared.scope.Listed.TheVariants.{Articles, Others, Dependents, Unclosed}
use Rattle.redo_page.specs.declared.scope.Test.TheVariants.{HasAny, HasFailed, HasSeveral, HasUnlisted}
use Rattle.redo_page.specs.Article.{article_parts, cause_of_node}
use Rattle.redo_page.specs.Failed.{failed_parts}
use Rattle.redo_page.specs.Frame.{footer_parts, head_parts, header_parts}
use Rattle.redo_page.specs.Laws.{IsPartOf, ListsFailures, cause_at, item_with, target_list}
use Rattle.redo_page.specs.Timeline.{timeline_parts}
use Rattle.redo_page.specs.Page.{Request, options_of, page_contents, page_outline, page_parts, page_view, top_parts}
use Rattle.redo_page.specs.Scope.{View, count_of, holds, max_rows, positions_of}
use Rattle.redo_page.specs.NewSection.{news_parts}
use Rattle.redo_page.specs.Summary.{summary_parts}
use Rattle.redo_page.specs.Targets.{parts_if}
use Rattle.redo_page.specs.Template.{Block, block_parts, nothing, parts_of_items}
use Rattle.redo_page.specs.Tree.{articles, max_articles, root_failures, tree_parts, is_among}

whole_part : (parts : List Part) → IsPartOf parts parts
whole_part parts = record { before = []; after = []; splits = append-nil parts }

pub part_later : {inner whole : List Part} (front : List Part) → IsPartOf inner whole → IsPartOf inner (front ++ whole)
part_later {inner} front part = record {
  before = front ++ part.before;
  after = part.after;
  splits = append_assoc front part.before (inner ++ part.after) ∙ ap (λ t. front ++ t) part.splits;
}

pub part_earlier : {inner whole : List Part} (back : List Part) → IsPartOf inner whole → IsPartOf inner (whole ++ back)
part_earlier {inner} back part = record {
  before = part.before;
  after = part.after ++ back;
  splits = ap (λ t. part.before ++ t) (sym (append_assoc inner part.after back)) ∙ sym (append_assoc part.before (inner ++ part.after) back)
      ∙ ap (λ t. t ++ back) part.splits;
}

part_among : (f : ℕ → List Part) (numbers : List ℕ) (number : ℕ) → is_among numbers number ≡ true → IsPartOf (f number) (flat_map f numbers)
part_among f [] number among = absurd (cc)
part_among f (other ∷ numbers) number among = by (part_among f numbers number) (or_cases (number == other) (is_among numbers number) among)
  where
    by : (is_among numbers number ≡ true → IsPartOf (f number) (flat_map f numbers))
        → ((number == other) ≡ true) ⊎ (is_among numbers number ≡ true) → IsPartOf (f number) (f other ++ flat_map f numbers)
    by later (inl same) = record {
      before = [];
      after = flat_map f numbers;
      splits = ap (λ n. f n ++ flat_map f numbers) (eqb-true number other same);
    }
    by later (inr found) = part_later (f other) (later found)

-- The parts of the section after some items.
abbrev after : View → ℕ → List Part
after view count = parts_of_items (λ text. text.now) (block_parts (block_parts nothing)) view (drop count SECTION.now)

pub some_parts : (condition : Bool) → condition ≡ true → {inner parts : List Part} → IsPartOf inner parts
    → IsPartOf inner (parts_if condition parts)
some_parts condition is part = rw is part

-- What is in the section is in the top of the page, if a target failed.
section_in_top : (view : View) → 0 < length view.roots → {inner : List Part} → IsPartOf inner (after view 0)
    → IsPartOf inner (top_parts view)
unfolding top_parts failed_parts
section_in_top view some part =
    part_later (head_parts view)
    (part_later (header_parts view)
    (part_earlier (news_parts view ++ summary_parts view)
    (part_earlier [] (some_parts (holds view HasFailed) (lt-ltb 0 (length view.roots) some) part))))

-- The items of the section, from some item on.
module _ (view : View) where
  abbrev in_list : Block (Block (Unit {0})) → List Part
  in_list list = block_parts (block_parts nothing) list view

  after_title : {inner : List Part} → IsPartOf inner (after view 4) → IsPartOf inner (after view 0)
  after_title part = part_later (take 4 (after view 0)) part

  after_list : {inner : List Part} → IsPartOf inner (after view 5) → IsPartOf inner (after view 0)
  after_list part = after_title (part_later (parts_if (holds view (HasSeveral Articles)) (in_list LIST)) part)

  after_articles : {inner : List Part} → IsPartOf inner (after view 6) → IsPartOf inner (after view 0)
  after_articles part =
      after_list (part_later (flat_map (article_parts view.logs view.nodes view.recipes) (positions_of view Articles)) part)

  after_others : {inner : List Part} → IsPartOf inner (after view 7) → IsPartOf inner (after view 0)
  after_others part = after_articles (part_later (parts_if (holds view (HasAny Others)) (in_list OTHERS)) part)

  after_dependents : {inner : List Part} → IsPartOf inner (after view 8) → IsPartOf inner (after view 0)
  after_dependents part = after_others (part_later (parts_if (holds view (HasAny Dependents)) (in_list DEPENDENTS)) part)

  -- ---- lists

  -- The line of an item, which may say why its target failed.
  abbrev pub line_if : Bool → ℕ → List Part
  line_if causes position = parts_if causes (cause_at view.logs view.nodes position)

  abbrev rows : (ℕ → Markup) → Bool → Listed → List Part
  rows link causes these =
      flat_map (λ position. item_with view.logs view.nodes (line_if causes position) link position)
      (take max_rows (positions_of view these))

  pub list_in : (front : List Part) (link : ℕ → Markup) (causes : Bool) (these : Listed) (back : List Part)
      → IsPartOf (target_list view.logs view.nodes link (line_if causes) (take max_rows (positions_of view these)))
      (front ++ (rows link causes these ++ (MarkupPart markup.EndOrdered ∷ back)))
  list_in front link causes these back = record {
    before = front;
    after = back;
    splits = ap (λ t. front ++ t) (append_assoc (rows link causes these) (MarkupPart markup.EndOrdered ∷ []) back);
  }

  -- How many targets aren't listed, and the end of the list's element.
  abbrev pub more_end : Listed → List Part
  more_end these =
      parts_if (holds view (HasUnlisted these))
      (MarkupPart markup.QuietParagraph ∷ TextPart AND.now ∷ NumberPart (count_of view (Unlisted these)) ∷ TextPart MORE_IN_TREE.now
      ∷ MarkupPart markup.EndParagraph ∷ [])
      ++ MarkupPart markup.EndDetails ∷ []

  abbrev pub more_start : Listed → List ℕ → Markup → List Part
  more_start these heading list =
      MarkupPart markup.MoreDetails ∷ MarkupPart markup.Summary ∷ NumberPart (count_of view (All these)) ∷ TextPart heading
      ∷ MarkupPart markup.EndSummary ∷ MarkupPart list ∷ []

  abbrev pub IsMore : Bool → Listed → List Part → Type 0
  IsMore causes these parts =
      IsPartOf
      (target_list view.logs view.nodes (λ position. markup.TargetLink position) (line_if causes) (take max_rows (positions_of view these)))
      parts

  articles_listed : IsPartOf (target_list view.logs view.nodes (λ position. markup.OutputLink position) (line_if true)
      (take max_rows (positions_of view Articles))) (in_list LIST)
  unfolding cause_of_node
  articles_listed = list_in (MarkupPart markup.Ordered ∷ []) (λ position. markup.OutputLink position) true Articles []

  others_listed : IsMore true Others (in_list OTHERS)
  unfolding cause_of_node
  others_listed =
      list_in (more_start Others MORE_FAILED.now (markup.OrderedFrom 11)) (λ position. markup.TargetLink position) true Others
      (more_end Others)

  dependents_listed : IsMore false Dependents (in_list DEPENDENTS)
  dependents_listed =
      list_in (more_start Dependents FAILED_WITH_THESE.now markup.Ordered) (λ position. markup.TargetLink position) false Dependents
      (more_end Dependents)

  unclosed_listed : IsMore false Unclosed (in_list UNCLOSED)
  unclosed_listed =
      list_in (more_start Unclosed COUNT_NOT_CLOSED.now markup.Ordered) (λ position. markup.TargetLink position) false Unclosed
      (more_end Unclosed)

  -- At most ten targets have articles, so their list names all of them.
  all_articles : take max_rows (positions_of view Articles) ≡ take max_articles view.roots
  all_articles =
      let size = length-take max_articles view.roots in
      take_all max_rows (take max_articles view.roots) (omega (arith, size))

  pub any : (these : Listed) → 0 < length (positions_of view these) → holds view (HasAny these) ≡ true
  any these some = ap not (ne_eqb (length (positions_of view these)) 0 (λ none. omega (arith, none, some)))

top_has_article : (view : View) (position : ℕ) → is_among (take max_articles view.roots) position ≡ true
    → IsPartOf (article_parts view.logs view.nodes view.recipes position) (top_parts view)
top_has_article view position among =
    section_in_top view (has_failed view.roots among)
    (after_list view
    (part_earlier (after view 6)
    (part_among (article_parts view.logs view.nodes view.recipes) (positions_of view Articles) position among)))
  where
    has_failed : (roots : List ℕ) → is_among (take max_articles roots) position ≡ true → 0 < length roots
    has_failed [] is = absurd (cc)
    has_failed (root ∷ roots) is = omega arith

module _ (request : Request) (logs : List Log) (requested : List (List ℕ)) where
  abbrev view : View
  view = page_view request logs requested

  abbrev pub page_tree : List Part
  page_tree = tree_parts logs (options_of request) (page_outline request logs requested) (page_contents request logs requested)

  abbrev pub page_article : ℕ → List Part
  page_article position = article_parts logs (page_outline request logs requested) request.recipes position

  pub page_has_tree : IsPartOf page_tree (page_parts request logs requested)
  unfolding page_parts
  page_has_tree =
      part_later (top_parts view)
      (part_earlier (footer_parts view) (part_later (timeline_parts view) (whole_part page_tree)))

  pub top_in_page : {inner : List Part} → IsPartOf inner (top_parts view) → IsPartOf inner (page_parts request logs requested)
  unfolding page_parts
  top_in_page part = part_earlier ((timeline_parts view ++ page_tree) ++ footer_parts view) part

  pub page_has_article : (position : ℕ) → is_among (articles (page_outline request logs requested)) position ≡ true
      → IsPartOf (page_article position) (page_parts request logs requested)
  page_has_article position among = top_in_page (top_has_article view position among)

  pub page_lists_failures : 0 < length (root_failures (page_outline request logs requested))
      → ListsFailures logs (page_outline request logs requested) (page_parts request logs requested)
  page_lists_failures some = record {
    with_articles = λ several. in_section (after_title view (part_earlier (after view 5)
        (some_parts (holds view (HasSeveral Articles)) (lt-ltb 1 (length (positions_of view Articles)) several)
        (subst
        (λ (all : List ℕ). IsPartOf
        (target_list view.logs view.nodes (λ position. markup.OutputLink position) (line_if view true) all) (in_list view LIST))
        (all_articles view) (articles_listed view)))));
    others = λ any_other. in_section (after_articles view (part_earlier (after view 7)
        (some_parts (holds view (HasAny Others)) (any view Others any_other) (others_listed view))));
    dependents = λ any_dependent. in_section (after_others view (part_earlier (after view 8)
        (some_parts (holds view (HasAny Dependents)) (any view Dependents any_dependent) (dependents_listed view))));
    unclosed = λ any_unclosed. in_section (after_dependents view (part_earlier (after view 9)
        (some_parts (holds view (HasAny Unclosed)) (any view Unclosed any_unclosed) (unclosed_listed view))));
  }
    where
      in_section : {inner : List Part} → IsPartOf inner (after view 0) → IsPartOf inner (page_parts request logs requested)
      in_section part = top_in_page (section_in_top view some part)
