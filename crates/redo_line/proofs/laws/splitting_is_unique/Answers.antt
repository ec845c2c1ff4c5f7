use Rattle.redo_line.proofs.LineLemmas.{are_lines, only_lines}
use Rattle.redo_line.proofs.laws.splitting_is_unique.Goals as goal

pub returns-clause-exists : goal.returns-clause-exists
returns-clause-exists c = are_lines

pub returns-clause-only : goal.returns-clause-only
returns-clause-only c = only_lines
