use Rattle.redo_html.proofs.PartReading.{parts_show}
use Rattle.redo_html.proofs.laws.parts_show_their_text.Goals as goal

pub returns : goal.returns
returns c = parts_show
