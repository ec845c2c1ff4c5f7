use Rattle.std.proofs.lemmas.List.{append_assoc}
use Rattle.redo_html.proofs.chart.write_chart_start.Goals as goal

pub returns : goal.returns
returns g c = let wrote = simp c.lanes_after.ensures at c.write_fragments.ensures in simp append_assoc wrote
