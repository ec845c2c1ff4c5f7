use Rattle.std.proofs.Common.{Some, refl, ap, ◌∙◌}
use Rattle.redo_units.proofs.DateLemmas.{date_is, no_date}
use Rattle.redo_units.proofs.dates.date.Goals as goal

pub returns-in-Ok : goal.returns-in-Ok
returns-in-Ok c = ap Some c.to_bytes.ensures ∙ date_is c.in-Ok.date c.args.secs c.in-Ok.ensures.value (c.in-Ok.ensures.succeeds.0 refl)

pub returns-in-Err : goal.returns-in-Err
returns-in-Err c = no_date c.args.secs c.in-Err.ensures.succeeds.1
