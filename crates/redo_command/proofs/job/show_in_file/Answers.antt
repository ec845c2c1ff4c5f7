use Rattle.std.proofs.Common.{None}
use Rattle.redo_command.specs.Baseline.{IsReadIfAsked}
use Rattle.redo_command.specs.Job.{IsJobWritten}
use Rattle.redo_command.specs.Logs.{opaque_logs}
use Rattle.redo_command.proofs.Results.{is_shown_closed}
use Rattle.redo_command.proofs.job.show_in_file.Goals as goal

pub returns-clause-shown : goal.returns-clause-shown
returns-clause-shown g c =
    is_shown_closed
    (IsJobWritten (g.J.Job.are_facts c.args.job.now opaque_logs None c.show_logs-shown.result.index)
    (IsReadIfAsked (g.J.Job.baseline_dir c.args.job.now)) (g.J.Job.text c.args.job.now) opaque_logs
    c.show_logs-shown.result.index (g.J.Job.arguments c.args.job.now) None None)
    c.show_logs-shown.result.outcome c.close_output.result c.close_output.ensures c.show_logs-shown.ensures.shown
