use Rattle.redo_view.proofs.LogLineLemmas.{logs_show_lines}
use Rattle.redo_view.proofs.laws.logs_show_their_lines.Goals as goal

pub returns : goal.returns
returns c = logs_show_lines
