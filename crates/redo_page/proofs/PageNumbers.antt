-- The heading and the summary of a page.
use Rattle.std.proofs.Common.{◌≡◌, ℕ, Bool, true, false, List, [], ◌∷◌, ◌++◌, refl, sym, ◌∙◌, ap, subst}
use Rattle.std.specs.Prelude.{◌==◌, drop, is_some, length, nat_lt, not, unwrap_or, if◌then◌else◌}
use Rattle.std.specs.List.{flat_map, list_any}
use Rattle.std.proofs.lemmas.List.{append_assoc, append-nil}
use Rattle.redo_logs.specs.Logs.{Log}
use Rattle.redo_html.specs.declared.markup.Markup.TheVariants as markup
use Rattle.redo_html.specs.Parts.{Part}
use Rattle.redo_html.specs.Parts.Part.{MarkupPart, TextPart, NumberPart}
use Rattle.redo_html.specs.Shown.{number_text}
use Rattle.redo_outline.specs.declared.node.Node.{Node}
use Rattle.redo_page.specs.declared.frame.TheConstants.{HEADER}
use Rattle.redo_page.specs.declared.labels.TheConstants.{AND_COUNT, AT_MOST, AT_ONCE, DEPENDENT, FAILED, FAILED_SIGN, LOGS, MADE_BY, MADE_SIGN, OF, PROCESSOR_TIME, PROGRAM, SUM_OF_TIMES, SUMMARY, TARGETS, TARGETS_FAILED, TARGETS_MADE, TARGETS_UNFINISHED, TARGET_FAILED, TARGET_MADE, TARGET_UNFINISHED, TOOK, UNFINISHED_SIGN, WARNED_LINES}
use Rattle.redo_page.specs.declared.summary.TheConstants.{SECTION}
use Rattle.redo_page.specs.declared.verdict.Verdict.{Verdict}
use Rattle.redo_page.specs.declared.verdict.Verdict.TheVariants.{Failed, Unfinished, Made}
use Rattle.redo_page.specs.Failed.{failed_parts, is_dependent_failure}
use Rattle.redo_page.specs.Frame.{footer_parts, head_parts, header_parts}
use Rattle.redo_page.specs.Laws.{IsPartOf, end_shown, heading_shown, heading_with, number_of, requested_shown, root_count, summary_shown, tile, took_shown}
use Rattle.redo_page.specs.Page.{Request, body_parts, heading_of, options_of, page_facts, page_outline, page_parts, page_view, top_parts}
use Rattle.redo_page.specs.Scope.{View}
use Rattle.redo_page.specs.NewSection.{news_parts}
use Rattle.redo_page.specs.Summary.{summary_parts}
use Rattle.redo_page.specs.Targets.{parts_if}
use Rattle.redo_page.specs.Template.{block_parts, nothing, parts_of_items}
use Rattle.redo_page.specs.Verdict.{is_unfinished, sign_text, unfinished_count, verdict_of, verdict_text}
use Rattle.redo_page.specs.Words.{words_parts}
use Rattle.redo_page.specs.Tree.{root_failures, positions_where}
use Rattle.redo_page.proofs.PagePartLemmas.{part_earlier, part_later}
use Rattle.redo_summary.specs.declared.target.Target.{Target}
use Rattle.redo_summary.specs.Summary.{Facts, is_timed}
use Rattle.redo_summary.specs.Spans.{targets_of}
use Rattle.redo_summary.specs.Usage.{UsageFacts, usage_of}
use Rattle.redo_summary.specs.Window.{known_times}
use Rattle.redo_units.specs.Durations.{duration_words}
use Rattle.redo_units.specs.Sizes.{size_words, tenths_words}

-- ---- the heading

abbrev verdict_if : Bool → Bool → Verdict
verdict_if failed unfinished = if failed then Failed else if unfinished then Unfinished else Made

abbrev pub heading_if : List Node → Bool → Bool → List Part
heading_if nodes failed unfinished =
    if failed then heading_with FAILED_SIGN.now
    (number_text (root_count nodes) ++ (OF.now ++ number_of (length nodes) TARGET_FAILED.now TARGETS_FAILED.now))
    else if unfinished then heading_with UNFINISHED_SIGN.now
    (number_text (unfinished_count nodes) ++ (OF.now ++ number_of (length nodes) TARGET_UNFINISHED.now TARGETS_UNFINISHED.now))
    else heading_with MADE_SIGN.now (number_of (length nodes) TARGET_MADE.now TARGETS_MADE.now)

heading_is : (nodes : List Node) → heading_with (sign_text (verdict_of nodes)) (heading_of nodes) ≡ heading_shown nodes
heading_is nodes = by (nat_lt 0 (length (root_failures nodes))) (list_any is_unfinished nodes)
  where
    by : (failed unfinished : Bool)
        → heading_with (sign_text (verdict_if failed unfinished)) (verdict_text (verdict_if failed unfinished) nodes)
        ≡ heading_if nodes failed unfinished
    by true unfinished = refl
    by false true = refl
    by false false = refl

header_has : (view : View) → IsPartOf (heading_with (sign_text view.verdict) view.heading) (header_parts view)
header_has view = record { before = MarkupPart markup.Header ∷ []; after = drop 8 (header_parts view); splits = refl }

-- ---- the summary

abbrev term_of : List ℕ → List Part → List Part
term_of term rest =
    MarkupPart markup.Div ∷ MarkupPart markup.Term ∷ TextPart term ∷ MarkupPart markup.EndTerm ∷ MarkupPart markup.Description ∷ rest

abbrev ended : List Part → List Part
ended rest = MarkupPart markup.EndDescription ∷ MarkupPart markup.EndDiv ∷ rest

abbrev before_tiles : List Part
before_tiles =
    MarkupPart markup.SummarySection ∷ MarkupPart markup.SummaryHeading ∷ TextPart SUMMARY.now ∷ MarkupPart markup.EndHeading ∷ []

-- The tiles of the summary, and the parts before and after them.
abbrev in_tiles : Part → Part → Part → List Part → List Part → List Part → List Part → List Part → List Part → List Part
in_tiles targets roots warnings dependents size took timed processor rest =
    before_tiles
    ++ ((MarkupPart markup.DescriptionList
    ∷ ((tile TARGETS.now (targets ∷ [])
    ++ (tile FAILED.now (roots ∷ dependents)
    ++ (tile WARNED_LINES.now (warnings ∷ [])
    ++ (tile LOGS.now size
    ++ (took ++ (timed ++ processor))))))
    ++ MarkupPart markup.EndDescriptionList ∷ []))
    ++ rest)

ends_tile : (value others rest : List Part)
    → ((value ++ MarkupPart markup.EndDescription ∷ MarkupPart markup.EndDiv ∷ []) ++ others) ++ rest ≡ value ++ ended (others ++ rest)
ends_tile value others rest =
    let end = MarkupPart markup.EndDescription ∷ MarkupPart markup.EndDiv ∷ [] in
    append_assoc (value ++ end) others rest ∙ append_assoc value end (others ++ rest)

tiles_are : (targets roots warnings : Part) (dependents size took timed processor rest : List Part)
    → in_tiles targets roots warnings dependents size took timed processor rest
    ≡ before_tiles
    ++ (MarkupPart markup.DescriptionList
    ∷ term_of TARGETS.now (targets ∷ ended (term_of FAILED.now (roots ∷ (dependents ++ ended (term_of WARNED_LINES.now (warnings
    ∷ ended (term_of LOGS.now (size ++ ended (took ++ (timed ++ (processor ++ (MarkupPart markup.EndDescriptionList ∷ rest)))))))))))))
tiles_are targets roots warnings dependents size took timed processor rest =
    let after = MarkupPart markup.EndDescriptionList ∷ rest in
    let last = tile WARNED_LINES.now (warnings ∷ []) ++ (tile LOGS.now size ++ (took ++ (timed ++ processor))) in
    ap (λ (t : List Part). before_tiles ++ (MarkupPart markup.DescriptionList ∷ t))
    (append_assoc (tile TARGETS.now (targets ∷ []) ++ (tile FAILED.now (roots ∷ dependents) ++ last))
    (MarkupPart markup.EndDescriptionList ∷ []) rest
    ∙ ap (λ (t : List Part). term_of TARGETS.now (targets ∷ ended (term_of FAILED.now (roots ∷ t))))
    (ends_tile dependents last after
    ∙ ap (λ (t : List Part). dependents ++ ended (term_of WARNED_LINES.now (warnings ∷ ended (term_of LOGS.now t))))
    (ends_tile size (took ++ (timed ++ processor)) after
    ∙ ap (λ (t : List Part). size ++ ended t)
    (append_assoc took (timed ++ processor) after ∙ ap (λ (t : List Part). took ++ t) (append_assoc timed processor after)))))

timed_are : (sum at : List Part) (most : Part)
    → tile SUM_OF_TIMES.now sum ++ tile AT_ONCE.now (at ++ TextPart AT_MOST.now ∷ most ∷ [])
    ≡ term_of SUM_OF_TIMES.now (sum ++ ended (term_of AT_ONCE.now (at ++ (TextPart AT_MOST.now ∷ most ∷ ended []))))
timed_are sum at most = simp (append_assoc)

-- ---- the page

module _ (request : Request) (logs : List Log) (requested : List (List ℕ)) where
  abbrev view : View
  view = page_view request logs requested

  abbrev nodes : List Node
  nodes = page_outline request logs requested

  abbrev targets : List Target
  targets = targets_of nodes request.times

  abbrev facts : Facts
  facts = page_facts request logs requested

  abbrev usage : UsageFacts
  usage = usage_of nodes request.recipes facts.recipes

  summary_has : IsPartOf (summary_shown nodes targets usage.processor) (summary_parts view)
  unfolding summary_parts
  summary_has =
      let size = words_parts (size_words facts.bytes) in
      let took = parts_if (is_some facts.window) (tile TOOK.now (words_parts (duration_words facts.took))) in
      let sum = words_parts (duration_words facts.sum) in
      let at = words_parts (tenths_words facts.sum facts.took) in
      let roots = NumberPart (length (root_failures nodes)) in
      let dependent_count = length (positions_where is_dependent_failure 0 nodes) in
      let dependents = parts_if (not (dependent_count == 0))
      (TextPart AND_COUNT.now ∷ NumberPart dependent_count ∷ TextPart DEPENDENT.now ∷ []) in
      let rest = parts_of_items (λ text. text.now) (block_parts (block_parts (block_parts nothing))) view (drop 22 SECTION.now) in
      let timed = parts_if (is_timed facts) (term_of SUM_OF_TIMES.now (sum ++ ended (term_of AT_ONCE.now
      (at ++ (TextPart AT_MOST.now ∷ NumberPart facts.most ∷ ended []))))) in
      let processor = parts_if (is_some usage.processor)
      (tile PROCESSOR_TIME.now (words_parts (duration_words (unwrap_or usage.processor 0)))) in
      record {
        before = before_tiles;
        after = rest;
        splits =
            ap (λ (parts : List Part). in_tiles (NumberPart (length nodes)) roots (NumberPart facts.warnings) dependents size took
            (parts_if (is_timed facts) parts) processor rest) (timed_are sum at (NumberPart facts.most))
            ∙ tiles_are (NumberPart (length nodes)) roots (NumberPart facts.warnings) dependents size took timed processor rest;
      }

  abbrev title : List Part
  title =
      parts_if (not (length request.title == 0))
      (MarkupPart markup.Paragraph ∷ TextPart request.title ∷ MarkupPart markup.EndParagraph ∷ [])

  -- The header up to the requested targets.
  abbrev with_title : List Part → List Part
  with_title rest = MarkupPart markup.Header ∷ (heading_with (sign_text view.verdict) view.heading ++ (title ++ rest))

  abbrev after_item : ℕ → List Part
  after_item count = parts_of_items (λ text. text.now) (block_parts (block_parts (block_parts nothing))) view (drop count HEADER.now)

  abbrev each_requested : List Node → List Part
  each_requested some = flat_map (λ (node : Node). requested_shown logs node ++ []) some

  each_is : (some : List Node) → flat_map (requested_shown logs) some ≡ each_requested some
  each_is [] = refl
  each_is (node ∷ some) =
      ap (λ (t : List Part). t ++ flat_map (requested_shown logs) some) (sym (append-nil (requested_shown logs node)))
      ∙ ap (λ (t : List Part). (requested_shown logs node ++ []) ++ t) (each_is some)

  header_names : IsPartOf (flat_map (requested_shown logs) nodes) (header_parts view)
  header_names = record {
    before = with_title [];
    after = after_item 10;
    splits =
        ap (λ (t : List Part). with_title [] ++ (t ++ after_item 10)) (each_is nodes)
        ∙ ap (λ (t : List Part). MarkupPart markup.Header ∷ (heading_with (sign_text view.verdict) view.heading ++ t))
        (append_assoc title [] (each_requested nodes ++ after_item 10));
  }

  header_took : IsPartOf (took_shown (known_times targets)) (header_parts view)
  header_took = record {
    before = with_title (each_requested nodes);
    after = after_item 11;
    splits =
        ap (λ (t : List Part). MarkupPart markup.Header ∷ (heading_with (sign_text view.verdict) view.heading ++ t))
        (append_assoc title (each_requested nodes) (took_shown (known_times targets) ++ after_item 11));
  }

  page_has : (inner : List Part) → IsPartOf inner (top_parts view) → IsPartOf inner (page_parts request logs requested)
  unfolding page_parts
  page_has inner part = part_earlier (body_parts view (options_of request) request.max_bytes requested ++ footer_parts view) part

  header_has_part : (inner : List Part) → IsPartOf inner (header_parts view) → IsPartOf inner (page_parts request logs requested)
  unfolding top_parts
  header_has_part inner part =
      page_has inner
      (part_later (head_parts view) (part_earlier (failed_parts view ++ (news_parts view ++ summary_parts view)) part))

  pub page_has_heading : IsPartOf (heading_shown nodes) (page_parts request logs requested)
  page_has_heading =
      header_has_part (heading_shown nodes)
      (subst (λ (heading : List Part). IsPartOf heading (header_parts view)) (heading_is nodes) (header_has view))

  pub page_has_summary : IsPartOf (summary_shown nodes targets usage.processor) (page_parts request logs requested)
  unfolding top_parts
  page_has_summary =
      page_has (summary_shown nodes targets usage.processor)
      (part_later (head_parts view)
      (part_later (header_parts view) (part_later (failed_parts view) (part_later (news_parts view) summary_has))))

  footer_has : IsPartOf (end_shown request requested nodes) (footer_parts view)
  unfolding footer_parts
  footer_has = record {
    before =
        MarkupPart markup.EndMain ∷ MarkupPart markup.Footer ∷ MarkupPart markup.Paragraph ∷ TextPart MADE_BY.now ∷ MarkupPart markup.Code
        ∷ TextPart PROGRAM.now ∷ MarkupPart markup.EndCode ∷ TextPart OF.now ∷ [];
    after = drop 17 (footer_parts view);
    splits = refl;
  }

  pub page_has_end : IsPartOf (end_shown request requested nodes) (page_parts request logs requested)
  unfolding page_parts
  page_has_end = part_later (top_parts view) (part_later (body_parts view (options_of request) request.max_bytes requested) footer_has)

  pub page_has_names : IsPartOf (flat_map (requested_shown logs) nodes) (page_parts request logs requested)
  page_has_names = header_has_part (flat_map (requested_shown logs) nodes) header_names

  pub page_has_took : IsPartOf (took_shown (known_times targets)) (page_parts request logs requested)
  page_has_took = header_has_part (took_shown (known_times targets)) header_took
