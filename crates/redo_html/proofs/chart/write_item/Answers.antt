use Rattle.std.proofs.Common.{ap, sym}
use Rattle.redo_html.specs.Chart.{shape_of}
use Rattle.redo_html.specs.Chart.Shape.{LineShape, TickShape}
use Rattle.redo_html.specs.Private.Charting.{shape_html}
use Rattle.redo_html.proofs.WritingLemmas.{writes_as}
use Rattle.redo_html.proofs.chart.write_item.Goals as goal

pub returns-in-Line : goal.returns-in-Line
returns-in-Line g c =
    writes_as _ _ (shape_html c.args.kind (LineShape c.in-Line.x c.in-Line.bottom)) _ _
    (ap (λ item. shape_html c.args.kind (shape_of item)) (sym c.in-Line.is)) (c.write_line.ensures c.args.kind)

pub returns-in-Tick : goal.returns-in-Tick
returns-in-Tick g c =
    writes_as _ _ (shape_html c.args.kind (TickShape c.in-Tick.x c.in-Tick.anchor c.in-Tick.text.now)) _ _
    (ap (λ item. shape_html c.args.kind (shape_of item)) (sym c.in-Tick.is)) (c.write_tick.ensures c.args.kind)
