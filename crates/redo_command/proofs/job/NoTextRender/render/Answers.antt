use Rattle.redo_device.proofs.WritesLemmas.{append_nothing}
use Rattle.redo_command.proofs.job.NoTextRender.render.Goals as goal

pub returns : goal.returns
returns g c = append_nothing (g.W.Sink.written c.args._out.now)
