use Rattle.std.proofs.Common.{true, sym, ap, ◌∙◌}
use Rattle.redo_device.specs.Sink.{append_output}
use Rattle.redo_line.specs.Lines.{ended}
use Rattle.redo_view.specs.Form.{text_events}
use Rattle.redo_outline.specs.Private.Collecting.{other_shown}
use Rattle.redo_outline.proofs.CollectingLemmas.{bytes_none, empty_text, no_texts, none_written, nonempty_text, some_texts}
use Rattle.redo_outline.proofs.collector.CollectorForm.write_texts.Goals as goal

pub returns-then-not-is_empty-clause-wrote : goal.returns-then-not-is_empty-clause-wrote
returns-then-not-is_empty-clause-wrote g c =
    none_written (g.W.Sink.written c.args._out.now)
    ∙ ap (λ bytes. append_output (g.W.Sink.written c.args._out.now) bytes 0)
    (sym (bytes_none (text_events c.args._depth (ended c.args.lines.now)) c.args.self.now))

pub returns-then-not-is_empty-clause-state : goal.returns-then-not-is_empty-clause-state
returns-then-not-is_empty-clause-state g c =
    ap (other_shown true) c.self.view_is
    ∙ some_texts c.args._depth c.args.lines.now c.args.self.now c.requires.complete
    (nonempty_text c.args.lines.now (sym c.is_empty.ensures ∙ c.if-not-is_empty.true))

pub returns-else-not-is_empty-clause-wrote : goal.returns-else-not-is_empty-clause-wrote
returns-else-not-is_empty-clause-wrote g c =
    none_written (g.W.Sink.written c.args._out.now)
    ∙ ap (λ bytes. append_output (g.W.Sink.written c.args._out.now) bytes 0)
    (sym (bytes_none (text_events c.args._depth (ended c.args.lines.now)) c.args.self.now))

pub returns-else-not-is_empty-clause-state : goal.returns-else-not-is_empty-clause-state
returns-else-not-is_empty-clause-state g c =
    no_texts c.args._depth c.args.lines.now c.args.self.now c.requires.complete
    (empty_text c.args.lines.now (sym c.is_empty.ensures ∙ c.if-not-is_empty.false))
