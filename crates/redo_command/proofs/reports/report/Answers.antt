use Rattle.std.proofs.Common.{rules}
use Rattle.redo_command.proofs.reports.report.Goals as goal

pub returns-in-Ok : goal.returns-in-Ok
returns-in-Ok g c = search rules
