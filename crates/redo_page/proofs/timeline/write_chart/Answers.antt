use Rattle.std.proofs.Common.{sym, subst, ◌∙◌}
use Rattle.std.proofs.lemmas.List.{append-nil}
use Rattle.redo_chart.specs.Timeline.{timeline_drawing}
use Rattle.redo_html.specs.Parts.{part_html}
use Rattle.redo_html.specs.Parts.Part.{ChartPart}
use Rattle.redo_view.specs.Form.{FormWrites}
use Rattle.redo_page.specs.Timeline.{facts_drawing}
use Rattle.redo_page.proofs.timeline.write_chart.Goals as goal

pub returns : goal.returns
returns g c =
    let scope = c.args.scope.now in
    subst (λ text. FormWrites (g.W.Sink.written c.args.out.now) (g.W.Sink.written c.write_timeline.new.out) text c.write_timeline.result)
    ((λ i. part_html (ChartPart (timeline_drawing scope.table.now scope.nodes.now c.args.window (c.callers.ensures i) (c.recipes.ensures i)
    (c.marks.ensures i))))
    ∙ sym (append-nil (part_html (ChartPart (facts_drawing scope.table.now scope.nodes.now scope.facts.now c.args.window)))))
    c.write_timeline.ensures
