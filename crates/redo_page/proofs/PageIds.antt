-- The ids and the links of a page.
use Rattle.std.proofs.Common.{◌≡◌, ℕ, zero, suc, ◌+◌, ◌<◌, ◌≤◌, Bool, true, false, List, [], ◌∷◌, ◌++◌, map, refl, sym, ◌∙◌, ap, subst, arith}
use Rattle.std.specs.Prelude.{◌==◌, ◌||◌, ◌&&◌, codes, nat_lt, length, take, if◌then◌else◌, is_some, None, Option, Some}
use Rattle.std.specs.List.{AllByRecursion, flat_map, list_all, range_with_len}
use Rattle.std.proofs.lemmas.Bool.{and_from, and_parts, eqb-false, lt-ltb, ltb-true}
use Rattle.std.proofs.lemmas.List.{append-nil, length-map}
use Rattle.redo_facts.specs.Facts.{RecipeFacts}
use Rattle.redo_logs.specs.Logs.{Log}
use Rattle.redo_html.specs.Chart.{Drawing}
use Rattle.redo_html.specs.declared.markup.Markup.{Markup}
use Rattle.redo_html.specs.declared.markup.Markup.TheVariants.{FailedLink, FailedSection, NewLink, NewSection, SummaryLink, SummarySection, TimelineLink, TreeLink, TreeSection, Title1, DescriptionList}
use Rattle.redo_html.specs.Parts.{Part}
use Rattle.redo_html.specs.Parts.Part.{MarkupPart}
use Rattle.redo_page.specs.Targets.{parts_if}
use Rattle.std.proofs.lemmas.Grind.{flat_map-append}
use Rattle.redo_outline.specs.declared.node.Node.{Node}
use Rattle.redo_outline.specs.Contents.{Contents, contents_of}
use Rattle.redo_outline.specs.Facts.{target_status}
use Rattle.redo_outline.specs.Outline.{log_count, outline_of, with_times}
use Rattle.redo_page.specs.declared.failed.TheConstants.{FAILURES}
use Rattle.redo_page.specs.declared.news.TheConstants.{NEWS}
use Rattle.redo_page.specs.declared.frame.TheConstants.{FOOTER, HEAD, HEADER}
use Rattle.redo_page.specs.declared.scope.Listed.TheVariants.{Articles, Others, Dependents, Unclosed, NewlyFailing, Fixed}
use Rattle.redo_page.specs.declared.scope.Listed.{Listed}
use Rattle.redo_page.specs.declared.scope.Rows.{Rows}
use Rattle.redo_page.specs.declared.scope.Rows.TheVariants.{Longest, LongestAlone, MostMemory, Warned}
use Rattle.redo_page.specs.declared.scope.Rows.TheVariants as rows
use Rattle.redo_page.specs.declared.summary.TheConstants.{SECTION}
use Rattle.redo_page.specs.Failed.{failed_parts, is_dependent_failure, is_unclosed}
use Rattle.redo_page.specs.Frame.{footer_parts}
use Rattle.redo_page.specs.Laws.{HasTimeline, part_chart, section_id, section_link, heading_tag}
use Rattle.redo_page.proofs.PartNames.{article_ids, article_links, charts, section_ids, section_links, target_ids, target_links}
use Rattle.redo_page.specs.Page.{Request, options_of, page_contents, page_events, page_facts, page_outline, page_parts, page_view, run_times, top_parts}
use Rattle.redo_page.specs.Scope.{View, positions_of, rows_of}
use Rattle.redo_page.specs.NewSection.{news_parts}
use Rattle.redo_page.specs.Summary.{summary_parts}
use Rattle.redo_page.proofs.NewsLemmas.{failing_below, fixed_below, news_below}
use Rattle.redo_page.specs.Template.{Template, template_parts}
use Rattle.redo_page.specs.Tree.{articles, max_articles, root_failures, is_among}
use Rattle.redo_page.proofs.Ids.{Refers, is_section, section, then_refer}
use Rattle.redo_page.proofs.FailedIds.{all_among, articles_below, others_below, where_are_below}
use Rattle.redo_page.proofs.TemplateIds.{AreRows, is_listed, some_if, template_only, template_refers}
use Rattle.redo_page.proofs.TemplateIds.Place.{Failing, Outside}
use Rattle.redo_page.proofs.TimelineLemmas.{BarsLead, timeline_found, timeline_refers}
use Rattle.redo_page.specs.Limits.{tree_limits}
use Rattle.redo_trim.specs.declared.limit.Limit.{Limit}
use Rattle.redo_trim.specs.Trim.{trim}
use Rattle.redo_page.proofs.TreeIds.{nodes_counted, numbers_are, numbers_from, tree_refers}
use Rattle.redo_page.proofs.TreeItems.{tree_is_streamed}
use Rattle.redo_summary.specs.Laws.{AreOfNodes, AreRanksBelow}
use Rattle.redo_page.specs.Timeline.{facts_drawing, timeline_parts}
use Rattle.redo_summary.specs.Summary.{Facts, is_timed, summary_of}
use Rattle.redo_summary.specs.Usage.{usage_of}
use Rattle.redo_timeline.specs.declared.span.Span.{Span}
use Rattle.redo_timeline.specs.declared.span.Window.{Window}
use Rattle.redo_times.specs.declared.times.Times.{Times}
use Rattle.redo_view.specs.Event.{Event}

pub all_weaker : (passes others : ℕ → Bool) → ((number : ℕ) → passes number ≡ true → others number ≡ true) → (numbers : List ℕ)
    → list_all passes numbers ≡ true → list_all others numbers ≡ true
all_weaker passes others weaker [] all = refl
all_weaker passes others weaker (number ∷ numbers) all =
    let parts = and_parts (passes number) (list_all passes numbers) all in
    and_from (others number) (list_all others numbers) (weaker number parts.0) (all_weaker passes others weaker numbers parts.1)

among_numbers : (first count number : ℕ) → first ≤ number → number < first + count → is_among (numbers_from first count) number ≡ true
among_numbers first zero number from below = absurd (omega arith)
among_numbers first (suc count) number from below =
    by (number == first) refl (λ after. among_numbers (suc first) count number after (omega arith))
  where
    by : (here : Bool) → (number == first) ≡ here → (suc first ≤ number → is_among (numbers_from (suc first) count) number ≡ true)
        → (here || is_among (numbers_from (suc first) count) number) ≡ true
    by true is later = refl
    by false is later = let other : number ≡ first → ⊥ = eqb-false number first is in later (omega arith)

-- Items that are found in tags of sections are found in all parts.
in_sections : {X : Type 0} (f : Part → List X) → ((part : Part) → flat_map f (section part) ≡ f part) → (parts : List Part)
    → flat_map f parts ≡ flat_map f (flat_map section parts)
in_sections f each [] = refl
in_sections f each (part ∷ parts) =
    ap (λ t. t ++ flat_map f parts) (sym (each part)) ∙ ap (λ t. flat_map f (section part) ++ t) (in_sections f each parts)
    ∙ sym (flat_map-append f (section part) (flat_map section parts))

section_id_part : (part : Part) → flat_map section_id (section part) ≡ section_id part
section_id_part (MarkupPart markup) = by markup
  where
    by : (markup : Markup) → flat_map section_id (section (MarkupPart markup)) ≡ section_id (MarkupPart markup)
    by FailedSection = refl
    by markup = refl
section_id_part part = refl

section_link_part : (part : Part) → flat_map section_link (section part) ≡ section_link part
section_link_part (MarkupPart markup) = by markup
  where
    by : (markup : Markup) → flat_map section_link (section (MarkupPart markup)) ≡ section_link (MarkupPart markup)
    by FailedSection = refl
    by markup = refl
section_link_part part = refl

heading_tag_part : (part : Part) → flat_map heading_tag (section part) ≡ heading_tag part
heading_tag_part (MarkupPart markup) = by markup
  where
    by : (markup : Markup) → flat_map heading_tag (section (MarkupPart markup)) ≡ heading_tag (MarkupPart markup)
    by FailedSection = refl
    by markup = refl
heading_tag_part part = refl

-- A number for the tag of the tree's section.
abbrev pub tree_tag : Part → List ℕ
tree_tag (MarkupPart TreeSection) = 0 ∷ []
tree_tag part = []

tree_tag_part : (part : Part) → flat_map tree_tag (section part) ≡ tree_tag part
tree_tag_part (MarkupPart markup) = by markup
  where
    by : (markup : Markup) → flat_map tree_tag (section (MarkupPart markup)) ≡ tree_tag (MarkupPart markup)
    by FailedSection = refl
    by markup = refl
tree_tag_part part = refl

-- The heading, and the links to sections: what failed, what is new, the summary, the timeline, and the tree.
abbrev links : Bool → Bool → Bool → Bool → List Part
links failed compared some timed =
    MarkupPart Title1
    ∷ (parts_if failed (MarkupPart FailedLink ∷ [])
    ++ (parts_if compared (MarkupPart NewLink ∷ [])
    ++ (MarkupPart SummaryLink ∷ (some_if some (parts_if timed (MarkupPart TimelineLink ∷ []) ++ []) ++ MarkupPart TreeLink ∷ []))))

-- The tags of sections at the top of a page, if targets failed, if there is a baseline, and if a window and most times are known.
abbrev top_sections : Bool → Bool → Bool → Bool → List Part
top_sections failed compared some timed =
    links failed compared some timed
    ++ ((parts_if failed (MarkupPart FailedSection ∷ []) ++ [])
    ++ ((parts_if compared (MarkupPart NewSection ∷ []) ++ []) ++ MarkupPart SummarySection ∷ MarkupPart DescriptionList ∷ []))

-- The tags of all sections of such a page, and its charts.
abbrev page_sections : Bool → Bool → Bool → Bool → List Part → List Part
page_sections failed compared some timed timeline =
    top_sections failed compared some timed ++ ((timeline ++ MarkupPart TreeSection ∷ []) ++ [])

chart_part : (part : Part) → flat_map part_chart (section part) ≡ part_chart part
chart_part (MarkupPart markup) = by (is_section markup)
  where
    by : (is : Bool) → flat_map part_chart (if is then MarkupPart markup ∷ [] else []) ≡ []
    by true = refl
    by false = refl
chart_part part = refl

-- The charts are the charts of the timeline.
charts_found : (failed compared some timed : Bool) (timeline : List Part)
    → charts (page_sections failed compared some timed timeline) ≡ charts timeline
charts_found failed compared some timed timeline = by failed compared some timed
  where
    last : charts ((timeline ++ MarkupPart TreeSection ∷ []) ++ []) ≡ charts timeline
    last = simp (flat_map-append, append-nil)

    by : (failed compared some timed : Bool) → charts (page_sections failed compared some timed timeline) ≡ charts timeline
    by true true true true = last
    by true true true false = last
    by true true false true = last
    by true true false false = last
    by true false true true = last
    by true false true false = last
    by true false false true = last
    by true false false false = last
    by false true true true = last
    by false true true false = last
    by false true false true = last
    by false true false false = last
    by false false true true = last
    by false false true false = last
    by false false false true = last
    by false false false false = last

module _ (view : View) where
  -- The tags of sections of a page with this outcome, and its charts.
  abbrev sections_of : Bool → Bool → Bool → Option Window → List Part
  sections_of failed compared timed window = page_sections failed compared (is_some window) timed (timeline_found view timed window)

  abbrev view_sections : List Part
  view_sections =
      sections_of (nat_lt 0 (length (root_failures view.nodes))) view.news.is_compared (is_timed view.facts) view.facts.window

  -- There is a link to each section.
  sections_linked : section_links view_sections ≡ section_ids view_sections
  sections_linked = by (nat_lt 0 (length (root_failures view.nodes))) view.news.is_compared (is_timed view.facts) view.facts.window
    where
      by : (failed compared timed : Bool) (window : Option Window)
          → section_links (sections_of failed compared timed window) ≡ section_ids (sections_of failed compared timed window)
      by true true true None = refl
      by true true true (Some window) = refl
      by true true false None = refl
      by true true false (Some window) = refl
      by true false true None = refl
      by true false true (Some window) = refl
      by true false false None = refl
      by true false false (Some window) = refl
      by false true true None = refl
      by false true true (Some window) = refl
      by false true false None = refl
      by false true false (Some window) = refl
      by false false true None = refl
      by false false true (Some window) = refl
      by false false false None = refl
      by false false false (Some window) = refl

  -- One of them is the section of the tree.
  trees_found : flat_map tree_tag view_sections ≡ 0 ∷ []
  trees_found = by (nat_lt 0 (length (root_failures view.nodes))) view.news.is_compared (is_timed view.facts) view.facts.window
    where
      by : (failed compared timed : Bool) (window : Option Window) → flat_map tree_tag (sections_of failed compared timed window) ≡ 0 ∷ []
      by true true true None = refl
      by true true true (Some window) = refl
      by true true false None = refl
      by true true false (Some window) = refl
      by true false true None = refl
      by true false true (Some window) = refl
      by true false false None = refl
      by true false false (Some window) = refl
      by false true true None = refl
      by false true true (Some window) = refl
      by false true false None = refl
      by false true false (Some window) = refl
      by false false true None = refl
      by false false true (Some window) = refl
      by false false false None = refl
      by false false false (Some window) = refl

  headings_found : flat_map heading_tag view_sections ≡ Title1 ∷ DescriptionList ∷ []
  headings_found = by (nat_lt 0 (length (root_failures view.nodes))) view.news.is_compared (is_timed view.facts) view.facts.window
    where
      by : (failed compared timed : Bool) (window : Option Window)
          → flat_map heading_tag (sections_of failed compared timed window) ≡ Title1 ∷ DescriptionList ∷ []
      by true true true None = refl
      by true true true (Some window) = refl
      by true true false None = refl
      by true true false (Some window) = refl
      by true false true None = refl
      by true false true (Some window) = refl
      by true false false None = refl
      by true false false (Some window) = refl
      by false true true None = refl
      by false true true (Some window) = refl
      by false true false None = refl
      by false true false (Some window) = refl
      by false false true None = refl
      by false false true (Some window) = refl
      by false false false None = refl
      by false false false (Some window) = refl

-- The times of shown targets, and the recipes with the most memory, lead to positions of nodes.
abbrev pub HavePositions : Type 0
HavePositions = (nodes : List Node) (times : List Times) → AreOfNodes nodes (summary_of nodes times)

abbrev pub HavePositionsOfMemory : Type 0
HavePositionsOfMemory =
    (nodes : List Node) (facts : List RecipeFacts) (recipes : List Span)
    → AreRanksBelow (length nodes) (usage_of nodes facts recipes).memory

-- No log is left out of the tree.
abbrev pub KeepLogs : Type 0
KeepLogs = (limits : List Limit) (contents : Contents) → log_count (trim limits [] contents) ≡ log_count contents

-- There is a node for each log that is opened.
pub outline_counted : (request : Request) (logs : List Log) (requested : List (List ℕ))
    → length (page_outline request logs requested) ≡ log_count (contents_of (page_events request logs requested))
outline_counted request logs requested =
    let events = page_events request logs requested in
    length-map (outline_of logs events) (with_times (map run_times request.times))
    ∙ nodes_counted logs (target_status logs events) None 0 (contents_of events)

module _ (have : HavePositions) (memory : HavePositionsOfMemory) (lead : BarsLead) (keep : KeepLogs) (request : Request) (logs : List Log)
    (requested : List (List ℕ)) where
  abbrev parts : List Part
  parts = page_parts request logs requested

  abbrev nodes : List Node
  nodes = page_outline request logs requested

  abbrev facts : Facts
  facts = page_facts request logs requested

  abbrev view : View
  view = page_view request logs requested

  abbrev events : List Event
  events = page_events request logs requested

  -- The contents of the tree.
  abbrev shown : Contents
  shown = page_contents request logs requested

  rows_below : AreOfNodes nodes facts → (rows : Rows) → AreRanksBelow (length nodes) (rows_of view rows)
  rows_below positions Longest = by (is_timed facts)
    where
      by : (timed : Bool) → AreRanksBelow (length nodes) (if timed then facts.longest else [])
      by true = positions.longest
      by false = tt
  rows_below positions LongestAlone = by (is_timed facts && nat_lt 1 facts.most)
    where
      by : (shown : Bool) → AreRanksBelow (length nodes) (if shown then facts.alone else [])
      by true = positions.alone
      by false = tt
  rows_below positions MostMemory = memory nodes request.recipes facts.recipes
  rows_below positions Warned = positions.warned
  rows_below positions rows.New = news_below request.baseline logs nodes

  lists_below : (these : Listed) → list_all (is_listed (length nodes) (articles nodes) these) (positions_of view these) ≡ true
  lists_below Articles = all_among (articles nodes)
  lists_below Others = others_below nodes
  lists_below Dependents = where_are_below is_dependent_failure nodes
  lists_below Unclosed = where_are_below is_unclosed nodes
  lists_below NewlyFailing = failing_below request.baseline logs nodes
  lists_below Fixed = fixed_below request.baseline logs nodes

  -- The ids of articles, if there are any.
  abbrev ids_of : List ℕ → List ℕ
  ids_of roots = some_if (nat_lt 0 (length roots)) (take max_articles roots ++ [])

  ids_are : (roots : List ℕ) → ids_of roots ≡ take max_articles roots
  ids_are [] = refl
  ids_are (position ∷ roots) = by (nat_lt 0 (length (position ∷ roots))) (lt-ltb 0 (length (position ∷ roots)) (omega arith))
    where
      by : (some : Bool) → some ≡ true → some_if some (take max_articles (position ∷ roots) ++ []) ≡ take max_articles (position ∷ roots)
      by some is = rw is (append-nil (take max_articles (position ∷ roots)))

  rows_are : AreRows (length nodes) (articles nodes) view
  rows_are = (rows_below (have nodes request.times), lists_below, articles_below nodes)

  top_refers : Refers (length nodes) (articles nodes) (top_parts view) [] ((ids_of (root_failures nodes) ++ []) ++ [])
      (top_sections (nat_lt 0 (length (root_failures nodes))) view.news.is_compared (is_some facts.window) (is_timed facts))
  unfolding top_parts failed_parts news_parts summary_parts
  top_refers =
      let refers = λ (template : Template) (is : template_only Outside template ≡ true).
      template_refers (length nodes) (articles nodes) Outside template is view tt rows_are in
      let failures = template_refers (length nodes) (articles nodes) Failing FAILURES refl view tt rows_are in
      let news = template_refers (length nodes) (articles nodes) Failing NEWS refl view tt rows_are in
      then_refer (refers HEAD refl) (then_refer (refers HEADER refl) (then_refer failures (then_refer news (refers SECTION refl))))

  times_refer : Refers (length nodes) (articles nodes) (timeline_parts view) [] []
      (timeline_found view (is_timed facts) facts.window)
  times_refer =
      let positions = have nodes request.times in
      timeline_refers lead (length nodes) (articles nodes) view rows_are positions.callers positions.recipes positions.marks

  footer_refers : Refers (length nodes) (articles nodes) (footer_parts view) [] [] []
  unfolding footer_parts
  footer_refers = template_refers (length nodes) (articles nodes) Outside FOOTER refl view tt rows_are

  page_refers : Refers (length nodes) (articles nodes) parts (numbers_from 0 (log_count shown) ++ [])
      (((ids_of (root_failures nodes) ++ []) ++ []) ++ []) (view_sections view)
  unfolding page_parts
  page_refers =
      let tree = subst (λ (tree : List Part). Refers (length nodes) (articles nodes) tree (numbers_from 0 (log_count shown)) []
      (MarkupPart TreeSection ∷ [])) (sym (tree_is_streamed request logs requested)) (tree_refers logs (options_of request) nodes shown) in
      then_refer top_refers (then_refer (then_refer times_refer tree) footer_refers)

  -- Only the tree has ids of logs.
  pub before_tree : target_ids (top_parts view ++ timeline_parts view) ≡ []
  before_tree = (then_refer top_refers times_refer).target_ids_are

  pub after_tree : target_ids (footer_parts view) ≡ []
  after_tree = footer_refers.target_ids_are

  pub one_tree : flat_map tree_tag parts ≡ 0 ∷ []
  one_tree = in_sections tree_tag tree_tag_part parts ∙ ap (flat_map tree_tag) page_refers.sections_are ∙ trees_found view

  -- The section of what is new is the only one that its parts begin.
  pub new_section : view.news.is_compared ≡ true → section_ids (news_parts view) ≡ codes "new" ∷ []
  unfolding news_parts
  new_section compared =
      let news = template_refers (length nodes) (articles nodes) Failing NEWS refl view tt rows_are in
      in_sections section_id section_id_part (template_parts NEWS view) ∙ ap section_ids news.sections_are
      ∙ ap (λ (is : Bool). section_ids (parts_if is (MarkupPart NewSection ∷ []) ++ [])) compared

  own_target_ids : target_ids parts ≡ numbers_from 0 (length nodes)
  own_target_ids =
      page_refers.target_ids_are ∙ append-nil (numbers_from 0 (log_count shown))
      ∙ ap (numbers_from 0) (keep (tree_limits logs nodes request.max_bytes) (contents_of events)
      ∙ sym (outline_counted request logs requested))

  pub page_target_ids : target_ids parts ≡ range_with_len 0 (length nodes)
  page_target_ids = own_target_ids ∙ numbers_are 0 (length nodes)

  pub page_article_ids : article_ids parts ≡ articles nodes
  page_article_ids =
      let ids = ids_of (root_failures nodes) in
      page_refers.article_ids_are ∙ append-nil ((ids ++ []) ++ []) ∙ append-nil (ids ++ []) ∙ append-nil ids
      ∙ ids_are (root_failures nodes)

  pub page_target_links : list_all (is_among (target_ids parts)) (target_links parts) ≡ true
  page_target_links =
      ap (λ ids. list_all (is_among ids) (target_links parts)) own_target_ids
      ∙ all_weaker (λ number. nat_lt number (length nodes)) (is_among (numbers_from 0 (length nodes)))
      (λ number less. let below : number < length nodes = ltb-true number (length nodes) less in
      among_numbers 0 (length nodes) number (omega arith) (omega arith)) (target_links parts) page_refers.target_links_lead

  pub page_article_links : list_all (is_among (article_ids parts)) (article_links parts) ≡ true
  page_article_links = ap (λ ids. list_all (is_among ids) (article_links parts)) page_article_ids ∙ page_refers.article_links_lead

  pub page_section_links : section_links parts ≡ section_ids parts
  page_section_links =
      in_sections section_link section_link_part parts ∙ ap section_links page_refers.sections_are ∙ sections_linked view
      ∙ sym (ap section_ids page_refers.sections_are) ∙ sym (in_sections section_id section_id_part parts)

  pub page_headings : flat_map heading_tag parts ≡ Title1 ∷ DescriptionList ∷ []
  page_headings = in_sections heading_tag heading_tag_part parts ∙ ap (flat_map heading_tag) page_refers.sections_are ∙ headings_found view

  charts_are : charts parts ≡ charts (timeline_found view (is_timed facts) facts.window)
  charts_are =
      in_sections part_chart chart_part parts ∙ ap charts page_refers.sections_are
      ∙ charts_found (nat_lt 0 (length (root_failures nodes))) view.news.is_compared (is_some facts.window) (is_timed facts)
      (timeline_found view (is_timed facts) facts.window)

  pub page_has_chart : (window : Window) → facts.window ≡ Some window → is_timed facts ≡ true
      → charts parts ≡ facts_drawing logs (page_outline request logs requested) (page_facts request logs requested) window ∷ []
  page_has_chart window is timed = charts_are ∙ ap (λ (w : Option Window). charts (timeline_found view (is_timed facts) w)) is
      ∙ ap (λ (b : Bool). charts (timeline_found view b (Some window))) timed

  pub page_has_no_chart : ((window : Window) → HasTimeline request logs requested window → ⊥) → charts parts ≡ []
  page_has_no_chart none = charts_are ∙ by facts.window (is_timed facts) (λ window is timed. none window (is, timed))
    where
      by : (known : Option Window) (timed : Bool) → ((window : Window) → known ≡ Some window → timed ≡ true → ⊥)
          → charts (timeline_found view timed known) ≡ []
      by None timed none = refl
      by (Some window) true none = absurd (none window refl refl)
      by (Some window) false none = refl

-- What holds of the only chart holds of each chart.
pub the_chart : (P : Drawing → Type 0) (drawings : List Drawing) (drawing : Drawing) → drawings ≡ drawing ∷ [] → P drawing
    → AllByRecursion P drawings
the_chart P drawings drawing is holds = subst (AllByRecursion P) (sym is) (holds, tt)
