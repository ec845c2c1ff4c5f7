use Rattle.std.proofs.Common.{Err, ap}
use Rattle.redo_times.proofs.ReportLemmas.{no_name}
use Rattle.redo_times.proofs.report.resolve.Goals as goal

pub returns-in-Err-Empty : goal.returns-in-Err-Empty
returns-in-Err-Empty c = no_name c.args.log.now c.args.name.now (c.in-Err-Empty.ensures.empty.0 (ap Err c.in-Err-Empty.field-0-is))
