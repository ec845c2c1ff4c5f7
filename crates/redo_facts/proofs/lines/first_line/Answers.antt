use Rattle.redo_facts.proofs.LineLemmas.{first_ended, none_ended}
use Rattle.redo_facts.proofs.lines.first_line.Goals as goal

pub returns-in-Some-clause-some : goal.returns-in-Some-clause-some
returns-in-Some-clause-some c = first_ended c.args.bytes.now c.in-Some.at c.in-Some.ensures

pub returns-in-None-clause-none : goal.returns-in-None-clause-none
returns-in-None-clause-none c = none_ended c.args.bytes.now c.in-None.ensures
