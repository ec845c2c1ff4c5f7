use Rattle.std.proofs.Common.{ℕ, List, ◌++◌, ◌∙◌, ap}
use Rattle.std.specs.Prelude.{codes}
use Rattle.std.proofs.lemmas.List.{append_assoc}
use Rattle.redo_html.specs.Chart.{bar_nodes, bar_of, node_html, nodes_html}
use Rattle.redo_html.specs.Chart.Node.{EndTag}
use Rattle.redo_html.specs.Chart.Shape.{BarShape}
use Rattle.redo_html.specs.Private.Charting.{shape_html}
use Rattle.redo_html.proofs.ChartWriting.{bar_start, element_html, link_html, wrote_as}
use Rattle.redo_device.proofs.WritesLemmas.{at_first, in_middle, at_last, one_more}
use Rattle.redo_html.proofs.chart.write_bar.Goals as goal

pub returns-in_err-write_fragments : goal.returns-in_err-write_fragments
returns-in_err-write_fragments g c =
    let bar = bar_of c.args.bar in
    let rest = nodes_html (bar_nodes c.args.kind bar bar.label) ++ codes "</a>" in
    at_first _ (shape_html c.args.kind (BarShape bar)) _ _ rest _ _ c.from_residual.ensures.0 c.in_err-write_fragments.ensures
    (ap (λ (t : List ℕ). t ++ rest) (link_html bar.target)
    ∙ element_html (bar_start bar.target) (EndTag (codes "a")) (bar_nodes c.args.kind bar bar.label))

pub returns-in_err-write_bar_shape : goal.returns-in_err-write_bar_shape
returns-in_err-write_bar_shape g c =
    let bar = bar_of c.args.bar in
    let start = node_html (bar_start bar.target) in
    let inner = nodes_html (bar_nodes c.args.kind bar bar.label) in
    in_middle _ (shape_html c.args.kind (BarShape bar)) _ _ start inner (codes "</a>") _ _ c.from_residual-in_err-write_bar_shape.ensures.0
    (wrote_as _ _ _ start (link_html bar.target) c.in_ok-write_fragments.ensures) c.in_err-write_bar_shape.ensures
    (append_assoc start inner (codes "</a>")
    ∙ element_html (bar_start bar.target) (EndTag (codes "a")) (bar_nodes c.args.kind bar bar.label))

pub returns : goal.returns
returns g c =
    let bar = bar_of c.args.bar in
    let start = node_html (bar_start bar.target) in
    let inner = nodes_html (bar_nodes c.args.kind bar bar.label) in
    at_last _ (shape_html c.args.kind (BarShape bar)) _ _ (start ++ inner) (codes "</a>") _
    (one_more _ _ _ start inner (wrote_as _ _ _ start (link_html bar.target) c.in_ok-write_fragments.ensures)
    c.in_ok-write_bar_shape.ensures) c.push_all.ensures
    (append_assoc start inner (codes "</a>")
    ∙ element_html (bar_start bar.target) (EndTag (codes "a")) (bar_nodes c.args.kind bar bar.label))
