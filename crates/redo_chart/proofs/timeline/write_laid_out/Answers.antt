use Rattle.std.proofs.Common.{ℕ, List, map, ap, ◌∙◌, subst, arith}
use Rattle.redo_html.specs.Chart.{Drawing, shape_of}
use Rattle.redo_html.specs.Parts.{part_html}
use Rattle.redo_html.specs.Parts.Part.{ChartPart}
use Rattle.redo_timeline.specs.declared.bar.Bar.{Bar}
use Rattle.redo_view.specs.Form.{FormWrites}
use Rattle.redo_chart.specs.Bands.{below, marks_band, callers_band, recipes_band}
use Rattle.redo_chart.specs.Bars.{bar_shapes}
use Rattle.redo_chart.proofs.ChartLemmas.{all_fit, low_lanes, marks_top, no_memory, recipes_top, same_drawing}
use Rattle.redo_chart.proofs.timeline.write_laid_out.Goals as goal

pub returns-in_err-axis : goal.returns-in_err-axis
returns-in_err-axis g c = no_memory _ _ _ c.from_residual-in_err-axis.ensures.1

pub returns-in_err-caller_items : goal.returns-in_err-caller_items
returns-in_err-caller_items g c = no_memory _ _ _ c.from_residual-in_err-caller_items.ensures.1

pub returns-in_err-recipe_items : goal.returns-in_err-recipe_items
returns-in_err-recipe_items g c = no_memory _ _ _ c.from_residual-in_err-recipe_items.ensures.1

pub returns-in_err-mark_items : goal.returns-in_err-mark_items
returns-in_err-mark_items g c = no_memory _ _ _ c.from_residual-in_err-mark_items.ensures.1

pub bar_items-requires-clause-fit : goal.bar_items-requires-clause-fit
bar_items-requires-clause-fit g c =
    all_fit c.callers-callers_band.result callers_band c.bars-4.result.now c.args.callers.now 24 c.callers-callers_band.ensures
    c.bars-4.ensures (omega arith) (omega arith) (omega arith) (omega arith) c.requires.callers

pub bar_items-requires-2-clause-fit : goal.bar_items-requires-2-clause-fit
bar_items-requires-2-clause-fit g c =
    let callers = c.args.callers.now in
    let recipes = c.args.recipes.now in
    all_fit c.recipes-recipes_band.result (recipes_band callers.lane_count recipes.lane_count) c.bars-5.result.now recipes 96
    (c.recipes-recipes_band.ensures ∙ (λ i. recipes_band (c.lane_count.ensures i) (c.lane_count-2.ensures i))) c.bars-5.ensures
    (omega arith) (omega arith)
    (recipes_top callers.lane_count recipes.lane_count (c.requires.callers (omega arith)).0)
    (low_lanes recipes.lane_count) c.requires.recipes

pub bar_items-requires-3-clause-fit : goal.bar_items-requires-3-clause-fit
bar_items-requires-3-clause-fit g c =
    let callers = c.args.callers.now in
    let recipes = c.args.recipes.now in
    all_fit c.marks-marks_band.result (marks_band callers.lane_count recipes.lane_count) c.bars-6.result.now c.args.marks.now 1
    (c.marks-marks_band.ensures ∙ (λ i. marks_band (c.lane_count-3.ensures i) (c.lane_count-4.ensures i))) c.bars-6.ensures (omega arith)
    (omega arith)
    (marks_top callers.lane_count recipes.lane_count (c.requires.callers (omega arith)).0 (c.requires.recipes (omega arith)).0)
    (omega arith) c.requires.marks

pub returns : goal.returns
returns g c =
    let logs = c.args.table.now in
    let nodes = c.args.nodes.now in
    let callers = c.args.callers.now in
    let recipes = c.args.recipes.now in
    let marks = c.args.marks.now in
    let upper = c.callers-callers_band.result in
    let middle = c.recipes-recipes_band.result in
    let lower = c.marks-marks_band.result in
    subst (λ (drawing : Drawing). FormWrites (g.W.Sink.written c.args.out.now) (g.W.Sink.written c.write_groups.new.out)
    (part_html (ChartPart drawing)) c.write_groups.result)
    (same_drawing logs nodes c.args.width callers recipes marks c.below-height.result c.lane_count-6.result c.saturating_sub.result upper
    middle lower
    (map shape_of c.deref-5.result.now) (map shape_of c.deref-6.result.now) (map shape_of c.deref-7.result.now)
    (map shape_of c.deref-8.result.now)
    c.callers-callers_band.ensures
    (c.recipes-recipes_band.ensures ∙ (λ i. recipes_band (c.lane_count.ensures i) (c.lane_count-2.ensures i)))
    (c.marks-marks_band.ensures ∙ (λ i. marks_band (c.lane_count-3.ensures i) (c.lane_count-4.ensures i)))
    (c.below-height.ensures ∙ ap (λ (n : ℕ). below lower n) c.lane_count-5.ensures) c.saturating_sub.ensures c.lane_count-6.ensures
    (ap (map shape_of) c.deref-5.ensures.value ∙ c.in_ok-axis.ensures)
    (ap (map shape_of) c.deref-6.ensures.value ∙ c.in_ok-caller_items.ensures
    ∙ ap (λ (bars : List Bar). bar_shapes logs nodes upper bars) c.bars-4.ensures)
    (ap (map shape_of) c.deref-7.ensures.value ∙ c.in_ok-recipe_items.ensures
    ∙ ap (λ (bars : List Bar). bar_shapes logs nodes middle bars) c.bars-5.ensures)
    (ap (map shape_of) c.deref-8.ensures.value ∙ c.in_ok-mark_items.ensures
    ∙ ap (λ (bars : List Bar). bar_shapes logs nodes lower bars) c.bars-6.ensures))
    c.write_groups.ensures
