use Rattle.redo_html.proofs.LineWriting.{plain_lines_joined}
use Rattle.redo_html.proofs.laws.plain_lines_are_one_text.Goals as goal

pub returns : goal.returns
returns c = plain_lines_joined
