use Rattle.std.proofs.Common.{[], ◌∷◌, Ok, Err}
use Rattle.std.proofs.lemmas.Result.{err_from_is_err_and}
use Rattle.redo_html.specs.Parts.Part.{ChartPart}
use Rattle.redo_view.specs.declared.form.FormFault.TheVariants.{Write}
use Rattle.redo_page.specs.Private.Viewing.{view_of}
use Rattle.redo_page.specs.Timeline.{facts_drawing, timeline_end, timeline_start}
use Rattle.redo_page.proofs.PageLemmas.{next_stage, stage_fails}
use Rattle.redo_page.proofs.timeline.write_section.Goals as goal

pub returns-in_err-write_template : goal.returns-in_err-write_template
returns-in_err-write_template g c =
    let view = view_of c.args.scope.now in
    let chart = ChartPart (facts_drawing view.logs view.nodes view.facts c.args.window) in
    let given = err_from_is_err_and c.from_residual.result c.from_residual.ensures.1 in
    rw (given.1, given.2) (stage_fails _ _ (timeline_start view) (chart ∷ timeline_end view) Write c.in_err-write_template.ensures)

pub returns-in_err-write_chart : goal.returns-in_err-write_chart
returns-in_err-write_chart g c =
    let view = view_of c.args.scope.now in
    let chart = ChartPart (facts_drawing view.logs view.nodes view.facts c.args.window) in
    let given = err_from_is_err_and c.from_residual-in_err-write_chart.result c.from_residual-in_err-write_chart.ensures.1 in
    let fault = c.in_err-write_chart.field-0.0 in
    rw (given.1, given.2) (next_stage _ _ _ (timeline_start view) (chart ∷ timeline_end view) (Err fault) c.in_ok-write_template.ensures
    (stage_fails _ _ (chart ∷ []) (timeline_end view) fault c.in_err-write_chart.ensures))

pub returns-in_err-write_template-2 : goal.returns-in_err-write_template-2
returns-in_err-write_template-2 g c =
    let view = view_of c.args.scope.now in
    let chart = ChartPart (facts_drawing view.logs view.nodes view.facts c.args.window) in
    let given = err_from_is_err_and c.from_residual-in_err-write_template-2.result c.from_residual-in_err-write_template-2.ensures.1 in
    rw (given.1, given.2) (next_stage _ _ _ (timeline_start view) (chart ∷ timeline_end view) (Err Write) c.in_ok-write_template.ensures
    (next_stage _ _ _ (chart ∷ []) (timeline_end view) (Err Write) c.in_ok-write_chart.ensures c.in_err-write_template-2.ensures))

pub returns : goal.returns
returns g c =
    let view = view_of c.args.scope.now in
    let chart = ChartPart (facts_drawing view.logs view.nodes view.facts c.args.window) in
    next_stage _ _ _ (timeline_start view) (chart ∷ timeline_end view) (Ok tt) c.in_ok-write_template.ensures
    (next_stage _ _ _ (chart ∷ []) (timeline_end view) (Ok tt) c.in_ok-write_chart.ensures c.in_ok-write_template-2.ensures)
