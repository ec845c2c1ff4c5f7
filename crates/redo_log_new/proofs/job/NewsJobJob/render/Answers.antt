use Rattle.std.proofs.Common.{◌∙◌, List, Option, Some, ap, sym, subst}
use Rattle.std.specs.Prelude.{option_copied}
use Rattle.redo_logs.specs.Logs.{Log}
use Rattle.redo_view.specs.Form.{FormWrites}
use Rattle.redo_log_new.specs.Job.{job_news}
use Rattle.redo_log_new.proofs.job.NewsJobJob.render.Goals as goal

pub returns-in-Some : goal.returns-in-Some
returns-in-Some g c =
    subst (λ (earlier : Option (List Log)). FormWrites (g.W.Sink.written c.args.out.now) (g.W.Sink.written c.write_of_targets.new.out)
    (job_news c.args.self.now.job earlier c.args.table.now c.args.requested.now) c.write_of_targets.result)
    (ap Some c.table-earlier.ensures.logs ∙ sym (ap option_copied c.in-Some.is)) c.write_of_targets.ensures
