use Rattle.std.proofs.Common.{Ok, Err, rules}
use Rattle.redo_run.specs.Rendered.{render_call}
use Rattle.redo_command.proofs.Results.{is_run_written, is_written}
use Rattle.redo_command.proofs.logs.write_logs.Goals as goal

pub returns-in-Ok-clause-written : goal.returns-in-Ok-clause-written
returns-in-Ok-clause-written g c known give =
    is_written (g.V.Render.text c.args.renderer.now) g.R.Feed.contents known c.args.index.now c.args.readers.items c.args.arguments.now give
    (g.W.Sink.written c.args.out.now) (g.W.Sink.written c.run_as.new.out) c.plan_of-plan.result.max_bytes (Ok c.in-Ok.field-0)
    (search rules) c.in-Ok.ensures.ok

pub returns-in-Err-clause-written : goal.returns-in-Err-clause-written
returns-in-Err-clause-written g c known give =
    let asked = render_call (g.V.Render.text c.args.renderer.now) g.R.Feed.contents c.args.index.now c.args.readers.items
    c.plan_of-plan.result.max_bytes c.args.arguments.now in
    let before = g.W.Sink.written c.args.out.now in
    let after = g.W.Sink.written c.run_as.new.out in
    let run = is_run_written asked before after
    (Err c.in-Err.fault) tt c.in-Err.ensures.fault c.in-Err.ensures.nothing_written c.in-Err.ensures.write c.in-Err.ensures.memory in
    is_written (g.V.Render.text c.args.renderer.now) g.R.Feed.contents known c.args.index.now c.args.readers.items c.args.arguments.now give
    before after c.plan_of-plan.result.max_bytes (Err c.in-Err.fault) (search rules) run
