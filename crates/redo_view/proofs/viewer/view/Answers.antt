use Rattle.std.proofs.Common.{subst}
use Rattle.std.specs.Prelude.{OnOk}
use Rattle.redo_view.specs.Expansion.{shown_events}
use Rattle.redo_view.specs.Written.{WroteAll, WrotePrefix, WroteUntilFailed}
use Rattle.redo_view.proofs.PlainLines.{plain_text}
use Rattle.redo_view.proofs.viewer.view.Goals as goal

pub returns-clause-ok : goal.returns-clause-ok
returns-clause-ok g c =
    subst (λ text. OnOk c.view_as.result (WroteAll (g.W.Sink.written c.args.out.now) (g.W.Sink.written c.view_as.new.out) text))
    (plain_text (record { options = c.args.options.now }) (shown_events c.args.table.now c.args.options.now c.args.requested.now))
    c.view_as.ensures.ok

pub returns-clause-write : goal.returns-clause-write
returns-clause-write g c failed =
    subst (λ text. WroteUntilFailed (g.W.Sink.written c.args.out.now) (g.W.Sink.written c.view_as.new.out) text)
    (plain_text (record { options = c.args.options.now }) (shown_events c.args.table.now c.args.options.now c.args.requested.now))
    (c.view_as.ensures.write failed)

pub returns-clause-memory : goal.returns-clause-memory
returns-clause-memory g c failed =
    subst (λ text. WrotePrefix (g.W.Sink.written c.args.out.now) (g.W.Sink.written c.view_as.new.out) text)
    (plain_text (record { options = c.args.options.now }) (shown_events c.args.table.now c.args.options.now c.args.requested.now))
    (c.view_as.ensures.memory failed)
