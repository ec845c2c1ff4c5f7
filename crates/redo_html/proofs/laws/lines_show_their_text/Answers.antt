use Rattle.redo_html.proofs.LineLemmas.{lines_text, lines_style}
use Rattle.redo_html.proofs.laws.lines_show_their_text.Goals as goal

pub returns : goal.returns
returns c = record { text = lines_text; style = lines_style }
