use Rattle.std.proofs.Common.{sym, subst}
use Rattle.std.proofs.lemmas.Result.{err_from_is_err_and}
use Rattle.redo_line.specs.Lines.{ended}
use Rattle.redo_view.specs.Form.{text_events}
use Rattle.redo_view.specs.Written.{WroteAll, WroteUntilFailed}
use Rattle.redo_view.proofs.PlainLines.{lines_text, plain_state}
use Rattle.redo_view.proofs.plain.PlainTextForm.write_texts.Goals as goal

pub returns-in_err-write_lines-clause-wrote : goal.returns-in_err-write_lines-clause-wrote
returns-in_err-write_lines-clause-wrote g c =
    let given = err_from_is_err_and c.from_residual.result c.from_residual.ensures.1 in
    rw (given.1, given.2)
    (subst (λ text. WroteUntilFailed (g.W.Sink.written c.args.out.now) (g.W.Sink.written c.write_lines.new.out) text)
    (lines_text c.args.self.now c.args._depth c.args.lines.now c.requires.complete) c.in_err-write_lines.ensures)

pub returns-clause-wrote : goal.returns-clause-wrote
returns-clause-wrote g c =
    subst (λ text. WroteAll (g.W.Sink.written c.args.out.now) (g.W.Sink.written c.write_lines.new.out) text)
    (lines_text c.args.self.now c.args._depth c.args.lines.now c.requires.complete) c.in_ok-write_lines.ensures

pub returns-clause-state : goal.returns-clause-state
returns-clause-state g c = sym (plain_state c.args.self.now (text_events c.args._depth (ended c.args.lines.now)))
