use Rattle.redo_trim.proofs.LineLemmas.{first_found, line_found}
use Rattle.redo_trim.proofs.trimmed.first_line.Goals as goal

pub returns-in-Some : goal.returns-in-Some
returns-in-Some c = first_found c.args.lines.now c.in-Some.at c.in-Some.ensures

pub returns-in-None : goal.returns-in-None
returns-in-None c = absurd (line_found c.args.lines.now c.in-None.ensures c.requires.complete c.requires.some)
