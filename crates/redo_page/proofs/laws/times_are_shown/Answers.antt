use Rattle.std.proofs.Common.{ap, length}
use Rattle.redo_chart.specs.Laws.{DrawsAll, shapes_of}
use Rattle.redo_html.specs.declared.chart.GroupKind.TheVariants.{Callers, Recipes, Untimed}
use Rattle.redo_page.specs.Page.{page_facts, page_outline}
use Rattle.redo_page.proofs.PageIds.{page_has_chart, page_has_no_chart, the_chart}
use Rattle.redo_page.proofs.laws.times_are_shown.Goals as goal

pub returns-clause-chart : goal.returns-clause-chart
returns-clause-chart c = λ request logs requested window has.
    ap length (page_has_chart c.positions_are_of_nodes.ensures.times
    c.positions_are_of_nodes.ensures.memory c.bars_lead_to_positions.ensures c.trimmed_events_are_in_tree.ensures.logs request logs
    requested window has.0 has.1)

pub returns-clause-no_chart : goal.returns-clause-no_chart
returns-clause-no_chart c = page_has_no_chart c.positions_are_of_nodes.ensures.times
    c.positions_are_of_nodes.ensures.memory c.bars_lead_to_positions.ensures c.trimmed_events_are_in_tree.ensures.logs

pub returns-clause-window : goal.returns-clause-window
returns-clause-window c = λ request logs requested window has.
    c.window_is_over_known_times.ensures.window (page_outline request logs requested) request.times window has.0

pub returns-clause-spans : goal.returns-clause-spans
returns-clause-spans c = λ request logs requested.
    c.spans_are_callers_or_recipes.ensures (page_outline request logs requested) request.times

pub returns-clause-callers : goal.returns-clause-callers
returns-clause-callers c = λ request logs requested window has.
    let facts = page_facts request logs requested in
    the_chart
    (λ drawing. DrawsAll logs (page_outline request logs requested) window Callers facts.callers (shapes_of Callers drawing)) _ _
    (page_has_chart c.positions_are_of_nodes.ensures.times
    c.positions_are_of_nodes.ensures.memory c.bars_lead_to_positions.ensures c.trimmed_events_are_in_tree.ensures.logs request logs
    requested window has.0 has.1)
    (c.bars_say_when_targets_ran.ensures.callers logs (page_outline request logs requested) window facts.callers facts.recipes facts.marks)

pub returns-clause-recipes : goal.returns-clause-recipes
returns-clause-recipes c = λ request logs requested window has.
    let facts = page_facts request logs requested in
    the_chart
    (λ drawing. DrawsAll logs (page_outline request logs requested) window Recipes facts.recipes (shapes_of Recipes drawing)) _ _
    (page_has_chart c.positions_are_of_nodes.ensures.times
    c.positions_are_of_nodes.ensures.memory c.bars_lead_to_positions.ensures c.trimmed_events_are_in_tree.ensures.logs request logs
    requested window has.0 has.1)
    (c.bars_say_when_targets_ran.ensures.recipes logs (page_outline request logs requested) window facts.callers facts.recipes facts.marks)

pub returns-clause-marks : goal.returns-clause-marks
returns-clause-marks c = λ request logs requested window has.
    let facts = page_facts request logs requested in
    the_chart
    (λ drawing. DrawsAll logs (page_outline request logs requested) window Untimed facts.marks (shapes_of Untimed drawing)) _ _
    (page_has_chart c.positions_are_of_nodes.ensures.times
    c.positions_are_of_nodes.ensures.memory c.bars_lead_to_positions.ensures c.trimmed_events_are_in_tree.ensures.logs request logs
    requested window has.0 has.1)
    (c.bars_say_when_targets_ran.ensures.marks logs (page_outline request logs requested) window facts.callers facts.recipes facts.marks)
