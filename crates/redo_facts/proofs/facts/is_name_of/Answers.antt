use Rattle.std.proofs.Common.{Err, ap}
use Rattle.redo_facts.proofs.FactLemmas.{no_name}
use Rattle.redo_facts.proofs.facts.is_name_of.Goals as goal

pub returns-in-Err-Empty : goal.returns-in-Err-Empty
returns-in-Err-Empty c = no_name c.args.target.now c.args.name.now (c.in-Err-Empty.ensures.empty.0 (ap Err c.in-Err-Empty.field-0-is))
