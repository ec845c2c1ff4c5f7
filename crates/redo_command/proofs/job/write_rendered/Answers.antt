use Rattle.std.proofs.Common.{subst}
use Rattle.redo_command.specs.Logs.{IsWriteResult, logs_call}
use Rattle.redo_command.proofs.job.write_rendered.Goals as goal

pub returns-clause-written : goal.returns-clause-written
returns-clause-written g c known give =
    subst
    (λ arguments. IsWriteResult (logs_call known (g.V.Render.text c.args.text.now) c.args.index.now arguments)
    (g.W.Sink.written c.args.out.now) (g.W.Sink.written c.write_logs.new.out) c.write_logs.result)
    c.targets.ensures (c.write_logs.ensures.written known give)
