-- The timeline's elements nest, and its links lead to targets.
use Rattle.std.proofs.Common.{◌≡◌, ℕ, Bool, true, false, List, [], ◌∷◌, ◌++◌, Option, None, Some, refl, ◌∙◌, ap}
use Rattle.std.specs.Prelude.{codes, nat_lt}
use Rattle.std.specs.List.{list_all}
use Rattle.std.proofs.lemmas.Bool.{and_from, lt-ltb}
use Rattle.std.proofs.lemmas.List.{append-nil}
use Rattle.std.proofs.lemmas.List.Folds.{list_all-append}
use Rattle.redo_chart.specs.Laws.{are_below}
use Rattle.redo_chart.specs.Timeline.{timeline_drawing}
use Rattle.redo_html.specs.Chart.{drawing_links}
use Rattle.redo_html.specs.declared.markup.Markup.TheVariants.{TimelineSection}
use Rattle.redo_html.specs.Parts.{Part}
use Rattle.redo_html.specs.Parts.Part.{ChartPart, MarkupPart}
use Rattle.redo_logs.specs.Logs.{Log}
use Rattle.redo_outline.specs.declared.node.Node.{Node}
use Rattle.redo_page.specs.declared.timeline.TheConstants.{START, END}
use Rattle.redo_page.specs.Scope.{View}
use Rattle.redo_page.specs.Targets.{parts_if}
use Rattle.redo_page.specs.Timeline.{facts_drawing, timeline_if, timeline_parts, timeline_section}
use Rattle.redo_summary.specs.Laws.{AreSpansBelow}
use Rattle.redo_summary.specs.Summary.{is_timed}
use Rattle.redo_timeline.specs.declared.span.Span.{Span}
use Rattle.redo_timeline.specs.declared.span.Window.{Window}
use Rattle.redo_page.proofs.Ids.{Refers, bare_refers, then_refer}
use Rattle.redo_page.proofs.Nesting.{Nest, nest_if, then_lead}
use Rattle.redo_page.proofs.TemplateIds.{AreRows, template_refers}
use Rattle.redo_page.proofs.TemplateIds.Place.{Outside}
use Rattle.redo_page.proofs.TemplateNesting.{template_leads}

-- ---- nesting

pub timeline_nests : (view : View) → Nest (timeline_parts view)
timeline_nests view = by view.facts.window
  where
    by : (window : Option Window) → Nest (timeline_if view window)
    by None = record { leads = λ around tags. refl }
    by (Some window) =
        nest_if (is_timed view.facts) (then_lead (template_leads START view [] (codes "div" ∷ codes "section" ∷ []) refl)
        (then_lead {middle = codes "div" ∷ codes "section" ∷ []}
        {parts = ChartPart (facts_drawing view.logs view.nodes view.facts window) ∷ []} (record { leads = λ around tags. refl })
        (template_leads END view (codes "div" ∷ codes "section" ∷ []) [] refl)))

-- ---- links

below_test : (count : ℕ) (spans : List Span) → AreSpansBelow count spans → are_below count spans ≡ true
below_test count [] below = refl
below_test count (span ∷ spans) below =
    and_from (nat_lt span.position count) (are_below count spans) (lt-ltb span.position count below.0) (below_test count spans below.1)

-- The bars of a chart lead to positions below a number if the positions of all spans are below it.
abbrev pub BarsLead : Type 0
BarsLead = (logs : List Log) (nodes : List Node) (window : Window) (callers recipes marks : List Span) (count : ℕ)
    → are_below count (callers ++ (recipes ++ marks)) ≡ true
    → list_all (λ link. nat_lt link count) (drawing_links (timeline_drawing logs nodes window callers recipes marks)) ≡ true

-- The tag of the section, and the chart, if most times are known.
abbrev pub timeline_found : View → Bool → Option Window → List Part
timeline_found view timed None = []
timeline_found view timed (Some window) =
    parts_if timed (MarkupPart TimelineSection ∷ ChartPart (facts_drawing view.logs view.nodes view.facts window) ∷ [])

module _ (lead : BarsLead) (count : ℕ) (listed : List ℕ) (view : View) (rows_are : AreRows count listed view) where
  abbrev spans : List Span
  spans = view.facts.callers ++ (view.facts.recipes ++ view.facts.marks)

  all_below : AreSpansBelow count view.facts.callers → AreSpansBelow count view.facts.recipes → AreSpansBelow count view.facts.marks
      → are_below count spans ≡ true
  all_below callers recipes marks =
      let test = λ (span : Span). nat_lt span.position count in
      list_all-append test view.facts.callers (view.facts.recipes ++ view.facts.marks)
      ∙ and_from (are_below count view.facts.callers) (are_below count (view.facts.recipes ++ view.facts.marks))
      (below_test count view.facts.callers callers)
      (list_all-append test view.facts.recipes view.facts.marks
      ∙ and_from (are_below count view.facts.recipes) (are_below count view.facts.marks) (below_test count view.facts.recipes recipes)
      (below_test count view.facts.marks marks))

  chart_refers : (window : Window) → are_below count spans ≡ true
      → Refers count listed (ChartPart (facts_drawing view.logs view.nodes view.facts window) ∷ []) [] []
      (ChartPart (facts_drawing view.logs view.nodes view.facts window) ∷ [])
  chart_refers window below = record {
    target_ids_are = refl;
    article_ids_are = refl;
    target_links_lead =
        ap (list_all (λ number. nat_lt number count)) (append-nil (drawing_links (facts_drawing view.logs view.nodes view.facts window)))
        ∙ lead view.logs view.nodes window view.facts.callers view.facts.recipes view.facts.marks count below;
    article_links_lead = refl;
    sections_are = refl;
  }

  refers_if : (timed : Bool) (window : Window) → are_below count spans ≡ true
      → Refers count listed (parts_if timed (timeline_section view window)) [] [] (timeline_found view timed (Some window))
  refers_if true window below =
      then_refer (template_refers count listed Outside START refl view tt rows_are)
      (then_refer (chart_refers window below) (template_refers count listed Outside END refl view tt rows_are))
  refers_if false window below = bare_refers [] refl

  pub timeline_refers : AreSpansBelow count view.facts.callers → AreSpansBelow count view.facts.recipes
      → AreSpansBelow count view.facts.marks
      → Refers count listed (timeline_parts view) [] [] (timeline_found view (is_timed view.facts) view.facts.window)
  timeline_refers callers recipes marks = by view.facts.window
    where
      by : (window : Option Window) → Refers count listed (timeline_if view window) [] [] (timeline_found view (is_timed view.facts) window)
      by None = bare_refers [] refl
      by (Some window) = refers_if (is_timed view.facts) window (all_below callers recipes marks)
