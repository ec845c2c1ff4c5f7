use Rattle.std.proofs.Common.{◌≢◌, length}
use Rattle.redo_command.specs.Failure.{IsReportable, status_of}
use Rattle.redo_command.proofs.BaselineLemmas.{if_err, nonzero_baseline}
use Rattle.redo_command.proofs.job.report_baseline.Goals as goal

pub returns-clause-written : goal.returns-clause-written
returns-clause-written g c known give = (c.write_rendered.result, c.write_rendered.ensures.written known give, c.and.ensures)

pub returns-clause-reportable : goal.returns-clause-reportable
returns-clause-reportable g c =
    if_err (IsReportable (length c.args.index.now) (length (g.J.Job.arguments c.args.job.now))) c.write_rendered.result c.and.result
    c.args.fault c.and.ensures c.write_rendered.ensures.reportable (tt, tt)

pub returns-clause-nonzero_status : goal.returns-clause-nonzero_status
returns-clause-nonzero_status g c =
    if_err (λ failure. status_of failure ≢ 0) c.write_rendered.result c.and.result c.args.fault c.and.ensures
    c.write_rendered.ensures.nonzero_status (nonzero_baseline c.args.fault)
