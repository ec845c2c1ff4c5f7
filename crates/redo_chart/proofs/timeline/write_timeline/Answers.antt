use Rattle.std.proofs.Common.{sym, subst}
use Rattle.redo_html.specs.Chart.{Drawing}
use Rattle.redo_html.specs.Parts.{part_html}
use Rattle.redo_html.specs.Parts.Part.{ChartPart}
use Rattle.redo_timeline.specs.Laws.{IsInLanes}
use Rattle.redo_timeline.specs.Timeline.{Drawing as Timeline}
use Rattle.redo_timeline.proofs.LawLemmas.{in_lanes}
use Rattle.redo_view.specs.Form.{FormWrites}
use Rattle.redo_chart.specs.Timeline.{drawing_of}
use Rattle.redo_chart.proofs.timeline.write_timeline.Goals as goal

pub write_laid_out-requires-clause-callers : goal.write_laid_out-requires-clause-callers
write_laid_out-requires-clause-callers g c =
    subst (λ (t : Timeline). IsInLanes 24 t) (sym c.in_ok-callers.ensures) (in_lanes c.args.window 24 c.args.callers.now)

pub write_laid_out-requires-clause-recipes : goal.write_laid_out-requires-clause-recipes
write_laid_out-requires-clause-recipes g c =
    subst (λ (t : Timeline). IsInLanes 96 t) (sym c.in_ok-recipes.ensures) (in_lanes c.args.window 96 c.args.recipes.now)

pub write_laid_out-requires-clause-marks : goal.write_laid_out-requires-clause-marks
write_laid_out-requires-clause-marks g c =
    subst (λ (t : Timeline). IsInLanes 1 t) (sym c.in_ok-marks.ensures) (in_lanes c.args.window 1 c.args.marks.now)

pub returns : goal.returns
returns g c =
    subst (λ (drawing : Drawing). FormWrites (g.W.Sink.written c.args.out.now) (g.W.Sink.written c.write_laid_out.new.out)
    (part_html (ChartPart drawing)) c.write_laid_out.result)
    (λ i. drawing_of c.args.table.now c.args.nodes.now c.args.window.width (c.in_ok-callers.ensures i) (c.in_ok-recipes.ensures i)
    (c.in_ok-marks.ensures i)) c.write_laid_out.ensures
