use Rattle.std.proofs.Common.{None, ap, sym}
use Rattle.std.specs.Prelude.{option_map}
use Rattle.redo_html.specs.Chart.{bar_nodes, bar_of, nodes_html}
use Rattle.redo_html.proofs.WritingLemmas.{writes_as}
use Rattle.redo_html.proofs.chart.write_bar_shape.Goals as goal

pub returns-in-None : goal.returns-in-None
returns-in-None g c =
    writes_as _ _ (nodes_html (bar_nodes c.args.kind (bar_of c.args.bar) None)) _ _
    (ap (λ label. nodes_html (bar_nodes c.args.kind (bar_of c.args.bar) (option_map (λ text. text.now) label))) (sym c.in-None.is))
    (c.write_plain_bar.ensures c.args.kind)
