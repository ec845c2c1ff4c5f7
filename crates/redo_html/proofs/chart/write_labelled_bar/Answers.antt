use Rattle.std.proofs.lemmas.List.{append_assoc}
use Rattle.redo_html.proofs.chart.write_labelled_bar.Goals as goal

pub returns : goal.returns
returns g c = let wrote = simp (append_assoc, c.failed_attribute.ensures, c.fill_of_label.ensures) at c.write_fragments.ensures in
    simp append_assoc wrote
