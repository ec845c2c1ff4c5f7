use Rattle.redo_line.proofs.TextLemmas.{none_yet}
use Rattle.redo_line.proofs.progress.Progress.leading_text_lines.Goals as goal

pub returns-then-self-clause-lines : goal.returns-then-self-clause-lines
returns-then-self-clause-lines c = none_yet c.args.rest.now
