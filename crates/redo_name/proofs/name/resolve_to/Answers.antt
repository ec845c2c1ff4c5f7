use Rattle.std.proofs.Common.{arith}
use Rattle.std.proofs.lemmas.Grind.{common_steps}
use Rattle.std.specs.Option.{option_copied}
use Rattle.redo_name.proofs.NameLemmas.{normal_is_normal}
use Rattle.redo_name.proofs.name.resolve_to.Goals as goal

pub returns-clause-is_normal : goal.returns-clause-is_normal
returns-clause-is_normal c = normal_is_normal
    (option_copied c.args.target) c.args.name.now c.normal_form.new.path.items c.in_ok-normal_form.ensures

pub returns-then-is_empty-clause-empty : goal.returns-then-is_empty-clause-empty
returns-then-is_empty-clause-empty c = grind (arith, common_steps)
