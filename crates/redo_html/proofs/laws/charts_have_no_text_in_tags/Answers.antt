use Rattle.redo_html.proofs.PartReading.{drawing_same}
use Rattle.redo_html.proofs.laws.charts_have_no_text_in_tags.Goals as goal

pub returns : goal.returns
returns c = drawing_same
