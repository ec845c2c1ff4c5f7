use Rattle.redo_json.proofs.NewLemmas.{as_many, flag_at, in_new_lines}
use Rattle.redo_json.proofs.laws.new_are_in_new_lines.Goals as goal

pub returns-clause-flags : goal.returns-clause-flags
returns-clause-flags c = as_many

pub returns-clause-each : goal.returns-clause-each
returns-clause-each c = flag_at

pub returns-clause-lines : goal.returns-clause-lines
returns-clause-lines c = in_new_lines
