-- The section with what is new is a part of a page, and all that a baseline changes.
use Rattle.std.proofs.Common.{◌≡◌, ℕ, ◌<◌, Bool, true, false, List, [], ◌∷◌, ◌++◌, Option, None, Some, refl, sym, ◌∙◌, ap, subst, arith}
use Rattle.std.specs.Prelude.{◌&&◌, ◌==◌, codes, drop, is_some, length, not, take}
use Rattle.std.specs.List.{flat_map}
use Rattle.std.proofs.lemmas.Bool.{ne_eqb}
use Rattle.std.proofs.lemmas.Grind.{flat_map-append}
use Rattle.std.proofs.lemmas.List.{append-nil, append_assoc}
use Rattle.redo_compare.specs.Baseline.{BaselineValue}
use Rattle.redo_html.specs.declared.markup.Markup.TheVariants as markup
use Rattle.redo_html.specs.Parts.{Part}
use Rattle.redo_html.specs.Parts.Part.{MarkupPart, TextPart, NumberPart}
use Rattle.redo_logs.specs.Logs.{Log}
use Rattle.redo_outline.specs.declared.node.Node.{Node}
use Rattle.redo_page.specs.declared.frame.TheConstants.{HEADER}
use Rattle.redo_page.specs.declared.labels.TheConstants.{AND, FIXED, FIXED_COUNT, GONE, MORE_IN_LOGS, NEWLY_FAILING, NEWLY_FAILING_COUNT, NEW_LINES, NEW_SINCE, NOTHING_NEW, SENTENCE_END}
use Rattle.redo_page.specs.declared.news.TheConstants.{FAILING_NOW, FIXED_NOW, LINES, SECTION}
use Rattle.redo_page.specs.declared.scope.Count.TheVariants.{UnlistedNew}
use Rattle.redo_page.specs.declared.scope.Listed.TheVariants.{NewlyFailing, Fixed}
use Rattle.redo_page.specs.declared.scope.Test.TheVariants.{HasAny, HasBaseline, HasNew, HasUnlistedNew}
use Rattle.redo_page.specs.declared.template.Item.{Item}
use Rattle.redo_page.specs.Article.{line_of_node}
use Rattle.redo_page.specs.Failed.{failed_parts}
use Rattle.redo_page.specs.Frame.{footer_parts, head_parts, header_parts}
use Rattle.redo_page.specs.Laws.{HasNewSection, IsListed, IsPartOf, ListsNews, line_item, line_list, news_link, news_shown, section_id}
use Rattle.redo_page.proofs.PartNames.{section_ids}
use Rattle.redo_page.specs.NewSection.{new_lines, newly_failing, news_of, news_parts, news_since, no_news}
use Rattle.redo_page.specs.News.{NewsValue, has_news}
use Rattle.redo_page.specs.Page.{Request, body_parts, options_of, page_news, page_outline, page_parts, page_view, top_parts}
use Rattle.redo_page.specs.Scope.{View, count_of, holds, max_rows}
use Rattle.redo_page.specs.Summary.{summary_parts}
use Rattle.redo_page.specs.Targets.{parts_if}
use Rattle.redo_page.specs.Template.{Block, block_parts, nothing, parts_of_item, parts_of_items}
use Rattle.redo_page.proofs.PagePartLemmas.{IsMore, any, list_in, more_end, more_start, part_earlier, part_later, some_parts, top_in_page}

-- The parts of the section after some items.
abbrev after : View → ℕ → List Part
after view count = parts_of_items (λ text. text.now) (block_parts (block_parts nothing)) view (drop count SECTION.now)

section_in_top : (view : View) → view.news.is_compared ≡ true → {inner : List Part} → IsPartOf inner (after view 0)
    → IsPartOf inner (top_parts view)
unfolding top_parts news_parts
section_in_top view compared part =
    part_later (head_parts view)
    (part_later (header_parts view)
    (part_later (failed_parts view)
    (part_earlier (summary_parts view) (part_earlier [] (some_parts (holds view HasBaseline) compared part)))))

-- The sentence that has the numbers. `none` is whether nothing is new.
abbrev sentence : Bool → NewsValue → List Part
sentence none news =
    MarkupPart markup.QuietParagraph
    ∷ (parts_if none (TextPart NOTHING_NEW.now ∷ [])
    ++ TextPart NEW_LINES.now ∷ NumberPart (length news.lines) ∷ TextPart GONE.now ∷ NumberPart news.gone
    ∷ TextPart NEWLY_FAILING.now ∷ NumberPart (length news.failing) ∷ TextPart FIXED.now ∷ NumberPart (length news.fixed)
    ∷ TextPart SENTENCE_END.now ∷ MarkupPart markup.EndParagraph ∷ [])

not_not : (is : Bool) → not (not is) ≡ is
not_not true = refl
not_not false = refl

module _ (view : View) where
  abbrev in_list : Block (Block (Unit {0})) → List Part
  in_list list = block_parts (block_parts nothing) list view

  abbrev start : List Part
  start =
      MarkupPart markup.NewSection ∷ MarkupPart markup.NewHeading ∷ TextPart NEW_SINCE.now ∷ MarkupPart markup.EndHeading ∷ []

  abbrev nothing_new : List Part
  nothing_new = parts_if (not (has_news view.news)) (TextPart NOTHING_NEW.now ∷ [])

  abbrev numbers : List Part
  numbers =
      TextPart NEW_LINES.now ∷ NumberPart (length view.news.lines) ∷ TextPart GONE.now ∷ NumberPart view.news.gone
      ∷ TextPart NEWLY_FAILING.now ∷ NumberPart (length view.news.failing) ∷ TextPart FIXED.now ∷ NumberPart (length view.news.fixed)
      ∷ TextPart SENTENCE_END.now ∷ MarkupPart markup.EndParagraph ∷ []

  sentence_in : IsPartOf (sentence (not (has_news view.news)) view.news) (after view 0)
  sentence_in = record {
    before = start;
    after = after view 16;
    splits =
        ap (λ (t : List Part). start ++ (MarkupPart markup.QuietParagraph ∷ t)) (append_assoc nothing_new numbers (after view 16));
  }

  after_sentence : {inner : List Part} → IsPartOf inner (after view 16) → IsPartOf inner (after view 0)
  after_sentence part =
      part_later (start ++ MarkupPart markup.QuietParagraph ∷ []) (part_later nothing_new (part_later numbers part))

  after_lines : {inner : List Part} → IsPartOf inner (after view 17) → IsPartOf inner (after view 0)
  after_lines part = after_sentence (part_later (parts_if (holds view HasNew) (in_list LINES)) part)

  after_failing : {inner : List Part} → IsPartOf inner (after view 18) → IsPartOf inner (after view 0)
  after_failing part = after_lines (part_later (parts_if (holds view (HasAny NewlyFailing)) (in_list FAILING_NOW)) part)

  lines_in : IsPartOf (line_list view.logs view.nodes (take max_rows view.news.lines)) (in_list LINES)
  unfolding line_of_node
  lines_in =
      let rows = flat_map (line_item view.logs view.nodes) (take max_rows view.news.lines) in
      let back = parts_if (holds view HasUnlistedNew)
      (MarkupPart markup.QuietParagraph ∷ TextPart AND.now ∷ NumberPart (count_of view UnlistedNew) ∷ TextPart MORE_IN_LOGS.now
      ∷ MarkupPart markup.EndParagraph ∷ []) ++ [] in
      record {
        before = MarkupPart markup.Ordered ∷ [];
        after = back;
        splits = ap (λ (t : List Part). MarkupPart markup.Ordered ∷ t) (append_assoc rows (MarkupPart markup.EndOrdered ∷ []) back);
      }

  failing_in : IsMore view false NewlyFailing (in_list FAILING_NOW)
  failing_in =
      list_in view (more_start view NewlyFailing NEWLY_FAILING_COUNT.now markup.Ordered) (λ position. markup.TargetLink position) false
      NewlyFailing (more_end view NewlyFailing)

  fixed_in : IsMore view false Fixed (in_list FIXED_NOW)
  fixed_in =
      list_in view (more_start view Fixed FIXED_COUNT.now markup.Ordered) (λ position. markup.TargetLink position) false Fixed
      (more_end view Fixed)

  some_new : 0 < length view.news.lines → holds view HasNew ≡ true
  some_new some = ap not (ne_eqb (length view.news.lines) 0 (λ none. omega (arith, none, some)))

-- ---- the section

end_apart : (a b c d e end : List Part) → a ++ (b ++ (c ++ (d ++ (e ++ end)))) ≡ (a ++ (b ++ (c ++ (d ++ e)))) ++ end
end_apart a b c d e end = simp (append_assoc)

module _ (view : View) where
  -- What is between the tags of the section.
  abbrev inside_section : List Part
  inside_section =
      MarkupPart markup.NewHeading ∷ TextPart NEW_SINCE.now ∷ MarkupPart markup.EndHeading ∷ MarkupPart markup.QuietParagraph
      ∷ (nothing_new view
      ++ (numbers view
      ++ (parts_if (holds view HasNew) (in_list view LINES)
      ++ (parts_if (holds view (HasAny NewlyFailing)) (in_list view FAILING_NOW)
      ++ parts_if (holds view (HasAny Fixed)) (in_list view FIXED_NOW)))))

  section_is : view.news.is_compared ≡ true
      → news_parts view ≡ MarkupPart markup.NewSection ∷ (inside_section ++ MarkupPart markup.EndSection ∷ [])
  unfolding news_parts
  section_is compared =
      ap (λ (is : Bool). parts_if is (after view 0) ++ []) compared ∙ append-nil (after view 0)
      ∙ ap (λ (t : List Part). start view ++ (MarkupPart markup.QuietParagraph ∷ t))
      (end_apart (nothing_new view) (numbers view) (parts_if (holds view HasNew) (in_list view LINES))
      (parts_if (holds view (HasAny NewlyFailing)) (in_list view FAILING_NOW))
      (parts_if (holds view (HasAny Fixed)) (in_list view FIXED_NOW))
      (MarkupPart markup.EndSection ∷ []))

  -- No section begins inside.
  no_other : view.news.is_compared ≡ true → section_ids (news_parts view) ≡ codes "new" ∷ [] → section_ids inside_section ≡ []
  no_other compared one =
      sym (append-nil (section_ids inside_section))
      ∙ sym (flat_map-append section_id inside_section (MarkupPart markup.EndSection ∷ []))
      ∙ ap (drop 1) (sym (ap section_ids (section_is compared)) ∙ one)

-- ---- what a baseline changes

regroup : (head start link back failed news summary body : List Part)
    → (head ++ start) ++ (link ++ ((back ++ failed) ++ (news ++ (summary ++ body))))
    ≡ (head ++ ((start ++ (link ++ back)) ++ (failed ++ (news ++ summary)))) ++ body
regroup head start link back failed news summary body = simp (append_assoc)

-- The parts of some items of the header.
abbrev header_items : View → List (Item (record { now : List ℕ }) (Block (Block (Block (Unit {0}))))) → List Part
header_items view items = parts_of_items (λ text. text.now) (block_parts (block_parts (block_parts nothing))) view items

abbrev header_start : View → List Part
header_start view = header_items view (take 15 HEADER.now)

abbrev header_end : View → List Part
header_end view = header_items view (drop 16 HEADER.now)

header_is : (view : View) → header_parts view ≡ header_start view ++ (parts_if view.news.is_compared news_link ++ header_end view)
header_is view =
    flat_map-append (parts_of_item (λ text. text.now) (block_parts (block_parts (block_parts nothing))) view) (take 15 HEADER.now)
    (drop 15 HEADER.now)

with_news : (view : View) (body : List Part) → view.news.is_compared ≡ true
    → (head_parts view ++ header_start view)
    ++ (news_link ++ ((header_end view ++ failed_parts view) ++ (news_parts view ++ (summary_parts view ++ body))))
    ≡ top_parts view ++ body
unfolding top_parts
with_news view body compared =
    regroup (head_parts view) (header_start view) news_link (header_end view) (failed_parts view) (news_parts view) (summary_parts view)
    body
    ∙ ap (λ (header : List Part). (head_parts view ++ (header ++ (failed_parts view ++ (news_parts view ++ summary_parts view)))) ++ body)
    (sym (header_is view ∙ ap (λ (shown : Bool). header_start view ++ (parts_if shown news_link ++ header_end view)) compared))

without_news : (view : View) (body : List Part)
    → (head_parts view ++ header_start view) ++ ((header_end view ++ failed_parts view) ++ (summary_parts view ++ body))
    ≡ top_parts (record view { news = no_news }) ++ body
unfolding top_parts failed_parts news_parts summary_parts
without_news view body =
    regroup (head_parts view) (header_start view) [] (header_end view) (failed_parts view) [] (summary_parts view) body
    ∙ ap (λ (header : List Part). (head_parts view ++ (header ++ (failed_parts view ++ summary_parts view))) ++ body)
    (sym (header_is (record view { news = no_news })))

-- ---- the page

module _ (request : Request) (logs : List Log) (requested : List (List ℕ)) (some : is_some request.baseline ≡ true) where
  abbrev view : View
  view = page_view request logs requested

  pub compared : view.news.is_compared ≡ true
  compared = by request.baseline some
    where
      by : (baseline : Option BaselineValue) → is_some baseline ≡ true
          → (news_of baseline logs (page_outline request logs requested)).is_compared ≡ true
      by None is = absurd (cc)
      by (Some baseline) is = refl

  abbrev nodes : List Node
  nodes = page_outline request logs requested

  -- The lists of what is new.
  abbrev Lists : NewsValue → Type 0
  Lists news =
      (0 < length news.lines → IsPartOf (line_list logs nodes (take max_rows news.lines)) (page_parts request logs requested))
      × IsListed logs nodes (λ position. []) (page_parts request logs requested) news.failing
      × IsListed logs nodes (λ position. []) (page_parts request logs requested) news.fixed

  in_section : {inner : List Part} → IsPartOf inner (after view 0) → IsPartOf inner (page_parts request logs requested)
  in_section part = top_in_page request logs requested (section_in_top view compared part)

  module _ (baseline : BaselineValue) (is : request.baseline ≡ Some baseline) where
    news_are : page_news request logs requested ≡ news_since baseline logs nodes
    news_are = ap (λ (known : Option BaselineValue). news_of known logs nodes) is

    pub page_lists_news : ListsNews baseline logs nodes (page_parts request logs requested)
    page_lists_news =
        let listed = subst Lists news_are (
          (λ any_new. in_section (after_sentence view (part_earlier (after view 17)
              (some_parts (holds view HasNew) (some_new view any_new) (lines_in view))))),
          (λ any_failing. in_section (after_lines view (part_earlier (after view 18)
              (some_parts (holds view (HasAny NewlyFailing)) (any view NewlyFailing any_failing) (failing_in view))))),
          (λ any_fixed. in_section (after_failing view (part_earlier (after view 19)
              (some_parts (holds view (HasAny Fixed)) (any view Fixed any_fixed) (fixed_in view))))),
        ) in
        record { lines = listed.0; failing = listed.1; fixed = listed.2 }

    pub page_has_numbers : IsPartOf (news_shown baseline logs nodes) (page_parts request logs requested)
    page_has_numbers =
        subst (λ (none : Bool). IsPartOf (sentence none (news_since baseline logs nodes)) (page_parts request logs requested))
        (not_not (length (new_lines baseline logs 0 nodes) == 0 && length (newly_failing baseline logs nodes) == 0))
        (subst (λ (news : NewsValue). IsPartOf (sentence (not (has_news news)) news) (page_parts request logs requested)) news_are
        (in_section (sentence_in view)))

  pub page_has_more : section_ids (news_parts view) ≡ codes "new" ∷ []
      → HasNewSection (page_parts request logs requested) (page_parts (record request { baseline = None }) logs requested)
  unfolding page_parts footer_parts
  page_has_more one =
      let body = body_parts view (options_of request) request.max_bytes requested ++ footer_parts view in
      let before : List Part = head_parts view ++ header_start view in
      let middle : List Part = header_end view ++ failed_parts view in
      let after : List Part = summary_parts view ++ body in
      record {
        before = before;
        middle = middle;
        inside = inside_section view;
        after = after;
        with_both = ap (λ (t : List Part). before ++ (news_link ++ (middle ++ t)))
            (sym (ap (λ (t : List Part). t ++ after) (section_is view compared)
            ∙ ap (λ (t : List Part). MarkupPart markup.NewSection ∷ t)
            (append_assoc (inside_section view) (MarkupPart markup.EndSection ∷ []) after)))
            ∙ with_news view body compared;
        without = without_news view body;
        one_section = no_other view compared one;
      }
