use Rattle.redo_html.proofs.Reading.{passage_is_read}
use Rattle.redo_html.proofs.laws.passages_are_read_as_shown.Goals as goal

pub returns : goal.returns
returns c = passage_is_read
