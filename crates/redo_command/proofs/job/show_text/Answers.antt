use Rattle.std.proofs.Common.{◌∙◌, None, inr, is_some, ap}
use Rattle.std.specs.Prelude.{option_copied}
use Rattle.redo_command.specs.Baseline.{IsReadIfAsked}
use Rattle.redo_command.specs.Job.{IsJobWritten}
use Rattle.redo_command.specs.Logs.{opaque_logs}
use Rattle.redo_command.proofs.BaselineLemmas.{opaque_job}
use Rattle.redo_command.proofs.Results.{is_memory_failure}
use Rattle.redo_command.proofs.job.show_text.Goals as goal

pub returns-clause-shown : goal.returns-clause-shown
returns-clause-shown g c =
    inr (
      c.write_job-outcome.result,
      opaque_job (g.J.Job.are_facts c.args.job.now opaque_logs None c.args.index.now) (g.J.Job.text c.args.job.now) c.args.index.now
          (g.J.Job.arguments c.args.job.now) (g.J.Job.baseline_dir c.args.job.now) (λ logs. opaque_logs) (option_copied c.as_ref.result)
          c.write_job-outcome.result (ap is_some c.as_ref.ensures.value ∙ c.in_ok-baseline.ensures) c.write_job-outcome.ensures.written,
      c.flush_after.ensures,
    )

pub returns-in_err-baseline-clause-shown : goal.returns-in_err-baseline-clause-shown
returns-in_err-baseline-clause-shown g c =
    is_memory_failure
    (IsJobWritten (g.J.Job.are_facts c.args.job.now opaque_logs None c.args.index.now) (IsReadIfAsked (g.J.Job.baseline_dir c.args.job.now))
    (g.J.Job.text c.args.job.now) opaque_logs c.args.index.now (g.J.Job.arguments c.args.job.now) None None)
    c.from_residual.result c.from_residual.ensures.1

pub returns-in_err-buffer-clause-shown : goal.returns-in_err-buffer-clause-shown
returns-in_err-buffer-clause-shown g c =
    is_memory_failure
    (IsJobWritten (g.J.Job.are_facts c.args.job.now opaque_logs None c.args.index.now) (IsReadIfAsked (g.J.Job.baseline_dir c.args.job.now))
    (g.J.Job.text c.args.job.now) opaque_logs c.args.index.now (g.J.Job.arguments c.args.job.now) None None)
    c.from_residual-in_err-buffer.result c.from_residual-in_err-buffer.ensures.1
