use Rattle.std.proofs.Common.{rules, ◌∙◌, inr}
use Rattle.std.proofs.lemmas.Result.{IfOk-weaker, err_from_is_err_and}
use Rattle.redo_index.specs.Index.{listed_targets}
use Rattle.redo_options.specs.Arguments.{argument_bytes}
use Rattle.redo_view.specs.Written.{WroteAll, WrotePrefix, WroteUntilFailed}
use Rattle.redo_run.specs.Rendered.{render_call}
use Rattle.redo_run.proofs.Results.{rejected_argument, rejected_stream, all_known, some_result_text}
use Rattle.redo_run.proofs.running.run_as.Goals as goal

pub returns-in_err-targets-clause-fault : goal.returns-in_err-targets-clause-fault
returns-in_err-targets-clause-fault g c =
    let given = err_from_is_err_and c.from_residual.result c.from_residual.ensures.1 in
    rw (given.1, given.2)
    (rejected_argument (render_call (g.V.Render.text c.args.renderer.now) g.R.Feed.contents c.args.index.now c.args.readers.items
    c.args.plan.now.max_bytes c.args.arguments.now) c.in_err-targets.field-0.0 c.in_err-targets.ensures.fault)

pub returns-in_err-table-clause-fault : goal.returns-in_err-table-clause-fault
returns-in_err-table-clause-fault g c =
    let given = err_from_is_err_and c.from_residual-in_err-table.result c.from_residual-in_err-table.ensures.1 in
    rw (given.1, given.2)
    (rejected_stream (render_call (g.V.Render.text c.args.renderer.now) g.R.Feed.contents c.args.index.now c.args.readers.items
    c.args.plan.now.max_bytes c.args.arguments.now) c.in_err-table.field-0.0
    c.in_ok-targets.ensures.known c.in_err-table.ensures.gathered.fault)

pub show-requires-clause-known : goal.show-requires-clause-known
show-requires-clause-known g c =
    all_known c.in_ok-table.table (listed_targets c.args.index.now) c.deref.result.now
    (argument_bytes c.args.arguments.now) c.in_ok-table.ensures.gathered.targets
    (c.deref.ensures.value ∙ c.in_ok-targets.ensures.targets)

pub returns-clause-ok : goal.returns-clause-ok
returns-clause-ok g c =
    IfOk-weaker c.show.result _ _
    (λ _ wrote.
    some_result_text (render_call (g.V.Render.text c.args.renderer.now) g.R.Feed.contents c.args.index.now c.args.readers.items
    c.args.plan.now.max_bytes c.args.arguments.now)
    (WroteAll (g.W.Sink.written c.args.out.now) (g.W.Sink.written c.show.new.out))
    c.deref.result.now c.in_ok-table.table c.in_ok-targets.ensures.known
    (c.deref.ensures.value ∙ c.in_ok-targets.ensures.targets) c.logs_unless_fault.ensures c.in_ok-table.ensures.gathered.logs wrote)
    c.show.ensures.ok

pub returns-clause-write : goal.returns-clause-write
returns-clause-write g c failed =
    some_result_text (render_call (g.V.Render.text c.args.renderer.now) g.R.Feed.contents c.args.index.now c.args.readers.items
    c.args.plan.now.max_bytes c.args.arguments.now)
    (WroteUntilFailed (g.W.Sink.written c.args.out.now) (g.W.Sink.written c.show.new.out))
    c.deref.result.now c.in_ok-table.table c.in_ok-targets.ensures.known
    (c.deref.ensures.value ∙ c.in_ok-targets.ensures.targets) c.logs_unless_fault.ensures c.in_ok-table.ensures.gathered.logs
    (c.show.ensures.write failed)

pub returns-clause-memory : goal.returns-clause-memory
returns-clause-memory g c refused =
    inr (some_result_text (render_call (g.V.Render.text c.args.renderer.now) g.R.Feed.contents c.args.index.now c.args.readers.items
    c.args.plan.now.max_bytes c.args.arguments.now)
    (WrotePrefix (g.W.Sink.written c.args.out.now) (g.W.Sink.written c.show.new.out))
    c.deref.result.now c.in_ok-table.table c.in_ok-targets.ensures.known
    (c.deref.ensures.value ∙ c.in_ok-targets.ensures.targets) c.logs_unless_fault.ensures c.in_ok-table.ensures.gathered.logs
    (c.show.ensures.memory refused))

pub returns-in_err-table-clause-nothing_written : goal.returns-in_err-table-clause-nothing_written
returns-in_err-table-clause-nothing_written g c = search rules

pub returns-in_err-table-clause-memory : goal.returns-in_err-table-clause-memory
returns-in_err-table-clause-memory g c = search rules
