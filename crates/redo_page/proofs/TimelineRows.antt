-- Rows of the timeline's section, as the parts that are written. The values are worked out by hand.
use Rattle.std.proofs.Common.{◌≡◌, ℕ, Bool, true, false, List, [], ◌∷◌, ◌++◌, Option, None, Some, pos, replicate, refl}
use Rattle.std.specs.Fmt.{digits}
use Rattle.std.specs.Prelude.{codes, length}
use Rattle.redo_html.specs.declared.chart.GroupKind.TheVariants.{Callers, Recipes, Untimed}
use Rattle.redo_html.specs.declared.markup.Markup.{Markup}
use Rattle.redo_html.specs.declared.markup.Markup.TheVariants as markup
use Rattle.redo_html.specs.Chart.{Drawing, Shape}
use Rattle.redo_html.specs.Chart.Shape.{BarShape}
use Rattle.redo_html.specs.Parts.{Part}
use Rattle.redo_html.specs.Parts.Part.{ChartPart, MarkupPart, TextPart, NumberPart}
use Rattle.redo_chart.specs.Laws.{shapes_of}
use Rattle.redo_logs.specs.declared.log_state.LogState.TheVariants.{Ended}
use Rattle.redo_logs.specs.Logs.{Log}
use Rattle.redo_outline.specs.declared.node.Node.{Node}
use Rattle.redo_page.specs.NewSection.{no_news}
use Rattle.redo_page.specs.Page.{build_view}
use Rattle.redo_page.specs.Scope.{View}
use Rattle.redo_page.specs.Timeline.{facts_drawing, timeline_end, timeline_if, timeline_parts, timeline_section, timeline_start}
use Rattle.redo_summary.specs.Summary.{Facts}
use Rattle.redo_timeline.specs.declared.span.Span.{Span}
use Rattle.redo_timeline.specs.declared.span.Window.{Window}
use Rattle.redo_units.specs.Durations.{duration_words}
use Rattle.redo_units.specs.Ticks.{tick_step_of, tick_words}
use Rattle.redo_units.specs.Words.{decimal_text}
use Rattle.redo_page.specs.Tree.{no_node}

abbrev tag : Markup → Part
tag markup = MarkupPart markup

abbrev words : List ℕ → Part
words text = TextPart text

abbrev number : ℕ → Part
number value = NumberPart value

-- ---- values

abbrev log : List ℕ → Log
log target = record { target = target; entries = []; state = Ended }

abbrev node : ℕ → Option ℕ → ℕ → Node
node number parent status = record no_node { number = number; parent = parent; status = Some (pos status) }

abbrev logs : List Log
logs = log (codes "all") ∷ log (codes "a") ∷ log (codes "b") ∷ log (codes "c") ∷ []

abbrev nodes : List Node
nodes = node 0 None 0 ∷ node 2 (Some 0) 0 ∷ node 1 (Some 0) 0 ∷ node 3 (Some 0) 1 ∷ []

abbrev span : ℕ → ℕ → ℕ → Span
span position began ended = record { began = began; position = position; ended = ended; failed = false }

abbrev window : Window
window = record { began = 1000; width = 10000 }

abbrev facts : Option Window → List Span → List Span → List Span → Facts
facts window callers recipes marks = record {
  window = window;
  took = 10000;
  callers = callers;
  recipes = recipes;
  marks = marks;
  sum = 0;
  most = 0;
  warnings = 0;
  bytes = 0;
  longest = [];
  alone = [];
  warned = [];
}

abbrev some : ℕ → List Span
some count = replicate count (span 0 1000 11000)

-- A target that ran two others at once.
abbrev known : Facts
known = facts (Some window) (span 0 1000 11000 ∷ []) (span 1 1000 6000 ∷ span 2 2000 11000 ∷ []) []

abbrev view : Facts → View
view facts = build_view [] [] [] [] logs nodes facts no_news

-- ---- the parts before the chart

abbrev marks_text : ℕ → ℕ → List Part → List Part
marks_text marks targets rest =
    tag markup.QuietParagraph ∷ words (codes "The logs of ") ∷ number marks ∷ words (codes " of ") ∷ number targets
    ∷ words (codes " targets do not say when they began, or when they ended. These are marks in the last row.")
    ∷ tag markup.EndParagraph ∷ rest

abbrev heading : List Part → List Part
heading rest = tag markup.TimelineSection ∷ tag markup.TimelineHeading ∷ words (codes "Timeline") ∷ tag markup.EndHeading ∷ rest

starts_are :
    (timeline_start (view known) ≡ heading (tag markup.TimelineScroll ∷ []))
    × (timeline_start (view (facts (Some window) (some 1) (some 7) (some 1))) ≡ heading (marks_text 1 9 (tag markup.TimelineScroll ∷ [])))
    × (timeline_start (view (facts (Some window) (some 5) (some 14) (some 2))) ≡ heading (marks_text 2 21 (tag markup.TimelineScroll ∷ [])))
starts_are = (refl, refl, refl)

-- ---- the parts after the chart

abbrev pale : Part
pale = words (codes " Pale bars are recipes that ran others. They don't count in the sum of times.")

abbrev after : List Part → List Part
after texts =
    tag markup.EndDiv ∷ tag markup.QuietParagraph ∷ words (codes "A bar leads to its log.")
    ∷ (texts ++ (tag markup.EndParagraph ∷ tag markup.EndSection ∷ []))

ends_are : (timeline_end (view known) ≡ after (pale ∷ [])) × (timeline_end (view (facts (Some window) [] (some 1) [])) ≡ after [])
ends_are = (refl, refl)

-- ---- the section

abbrev drawn_at : ℕ → ℕ → ℕ → ℕ → ℕ → Bool → List ℕ → Option (List ℕ) → Shape
drawn_at position x y width height failed title label =
    BarShape (record { target = position; x = x; y = y; width = width; height = height; failed = failed; title = title; label = label })

-- With a mark of the last target, which failed.
abbrev chart : Drawing
chart = facts_drawing logs nodes (record known { marks = record { began = 9000; position = 3; ended = 9000; failed = true } ∷ [] }) window

chart_is :
    (chart.height ≡ 102) × (chart.lanes ≡ 2)
    × (shapes_of Callers chart ≡ drawn_at 0 0 20 10000 12 false (codes "all, 10.0 s") (Some (codes "all")) ∷ [])
    × (shapes_of Recipes chart ≡ drawn_at 1 0 40 5000 16 false (codes "b, 5.00 s") (Some (codes "b"))
    ∷ drawn_at 2 1000 58 9000 16 false (codes "a, 9.00 s") (Some (codes "a")) ∷ [])
    × (shapes_of Untimed chart ≡ drawn_at 3 8000 82 30 12 true (codes "c, exit 1") None ∷ [])
unfolding duration_words tick_step_of tick_words decimal_text digits
chart_is = (refl, refl, refl, refl, refl)

section_is :
    timeline_section (view known) window
    ≡ heading (tag markup.TimelineScroll ∷ ChartPart (facts_drawing logs nodes known window) ∷ after (pale ∷ []))
section_is = refl

-- Without a window, or if too few times are known, there is no section. There is one if one of ten targets has a mark.
sections_are :
    (length (timeline_if (view known) (Some window)) ≡ 12) × (timeline_if (view known) None ≡ [])
    × (length (timeline_if (view (facts (Some window) [] [] (some 1))) (Some window)) ≡ 0)
    × (length (timeline_if (view (facts (Some window) (some 1) (some 8) (some 1))) (Some window)) ≡ 19)
sections_are = (refl, refl, refl, refl)

timeline_is :
    (timeline_parts (view known)
    ≡ heading (tag markup.TimelineScroll ∷ ChartPart (facts_drawing logs nodes known window) ∷ after (pale ∷ [])))
    × (timeline_parts (view (record known { window = None })) ≡ [])
timeline_is = (refl, refl)
