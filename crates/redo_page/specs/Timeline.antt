-- The timeline of a build: the section with a bar for each target. Around the chart are the templates `START` and `END` in src/timeline.rt.
use Rattle.std.specs.Prelude.{List, [], ◌∷◌, ◌++◌, Option, None, Some}
use Rattle.redo_logs.specs.Logs.{Log}
use Rattle.redo_chart.specs.Timeline.{timeline_drawing}
use Rattle.redo_html.specs.Chart.{Drawing}
use Rattle.redo_html.specs.Parts.{Part}
use Rattle.redo_html.specs.Parts.Part.{ChartPart}
use Rattle.redo_outline.specs.declared.node.Node.{Node}
use Rattle.redo_page.specs.declared.timeline.TheConstants.{START, END}
use Rattle.redo_page.specs.Scope.{View}
use Rattle.redo_page.specs.Targets.{parts_if}
use Rattle.redo_page.specs.Template.{template_parts}
use Rattle.redo_summary.specs.Summary.{Facts, is_timed}
use Rattle.redo_timeline.specs.declared.span.Window.{Window}

abbrev pub facts_drawing : List Log → List Node → Facts → Window → Drawing
facts_drawing logs nodes facts window = timeline_drawing logs nodes window facts.callers facts.recipes facts.marks

abbrev pub timeline_start : View → List Part
timeline_start view = template_parts START view

abbrev pub timeline_end : View → List Part
timeline_end view = template_parts END view

abbrev pub timeline_section : View → Window → List Part
timeline_section view window = timeline_start view ++ (ChartPart (facts_drawing view.logs view.nodes view.facts window) ∷ timeline_end view)

-- There is a timeline if most times are known.
abbrev pub timeline_if : View → Option Window → List Part
timeline_if view None = []
timeline_if view (Some window) = parts_if (is_timed view.facts) (timeline_section view window)

abbrev pub timeline_parts : View → List Part
timeline_parts view = timeline_if view view.facts.window
