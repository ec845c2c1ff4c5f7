use Rattle.redo_index.proofs.FirstLine.{first_ended, first_unended}
use Rattle.redo_index.proofs.index.first_line.Goals as goal

pub returns-in-Some-clause-line : goal.returns-in-Some-clause-line
returns-in-Some-clause-line c = first_ended c.args.bytes.now c.in-Some.at c.in-Some.ensures

pub returns-in-None-clause-line : goal.returns-in-None-clause-line
returns-in-None-clause-line c = first_unended c.args.bytes.now c.requires.nonempty c.in-None.ensures
