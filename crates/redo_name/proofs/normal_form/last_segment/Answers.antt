use Rattle.redo_name.proofs.PathLemmas.{slash_found, no_slash_found}
use Rattle.redo_name.proofs.normal_form.last_segment.Goals as goal

pub returns-in-Some-clause-slash : goal.returns-in-Some-clause-slash
returns-in-Some-clause-slash c front last free is = slash_found c.args.name.now front last c.in-Some.at free is c.in-Some.ensures

pub returns-in-None-clause-slash : goal.returns-in-None-clause-slash
returns-in-None-clause-slash c front last free is = absurd (no_slash_found c.args.name.now front last is c.in-None.ensures)
