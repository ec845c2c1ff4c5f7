use Rattle.std.proofs.Common.{rules}
use Rattle.redo_name.proofs.name.TargetNamePartialEq.eq.Goals as goal

pub returns : goal.returns
returns c = search rules
