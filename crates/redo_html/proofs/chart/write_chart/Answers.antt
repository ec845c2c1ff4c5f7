use Rattle.std.proofs.Common.{◌++◌, ◌∙◌}
use Rattle.std.specs.Prelude.{codes}
use Rattle.std.proofs.lemmas.List.{append_assoc}
use Rattle.redo_html.specs.Chart.{drawing_nodes, drawing_of, nodes_html}
use Rattle.redo_html.specs.Private.Charting.{chart_start_html}
use Rattle.redo_html.proofs.ChartWriting.{drawing_parts, layers_html}
use Rattle.redo_device.proofs.WritesLemmas.{at_first, in_middle, at_last, one_more}
use Rattle.redo_html.proofs.chart.write_chart.Goals as goal

pub returns-in_err-write_chart_start : goal.returns-in_err-write_chart_start
returns-in_err-write_chart_start g c =
    let drawing = drawing_of c.args.chart in
    let start = chart_start_html drawing.height drawing.lanes in
    at_first _ (nodes_html (drawing_nodes drawing)) _ start
    (layers_html drawing ++ codes "</svg>") _ _ c.from_residual.ensures.0 c.in_err-write_chart_start.ensures (drawing_parts drawing)

pub returns-in_err-write_groups : goal.returns-in_err-write_groups
returns-in_err-write_groups g c =
    let drawing = drawing_of c.args.chart in
    let start = chart_start_html drawing.height drawing.lanes in
    in_middle _ (nodes_html (drawing_nodes drawing)) _ _ start (layers_html drawing)
    (codes "</svg>") _ _ c.from_residual-in_err-write_groups.ensures.0 c.in_ok-write_chart_start.ensures c.in_err-write_groups.ensures
    (append_assoc start (layers_html drawing) (codes "</svg>") ∙ drawing_parts drawing)

pub returns : goal.returns
returns g c =
    let drawing = drawing_of c.args.chart in
    let start = chart_start_html drawing.height drawing.lanes in
    at_last _ (nodes_html (drawing_nodes drawing)) _ _ (start ++ layers_html drawing) (codes "</svg>") _
    (one_more _ _ _ start (layers_html drawing) c.in_ok-write_chart_start.ensures c.in_ok-write_groups.ensures) c.push_all.ensures
    (append_assoc start (layers_html drawing) (codes "</svg>") ∙ drawing_parts drawing)
