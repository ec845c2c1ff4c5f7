use Rattle.std.proofs.Common.{sym, subst}
use Rattle.std.proofs.lemmas.Result.{err_from_is_err_and}
use Rattle.redo_line.specs.Lines.{ended}
use Rattle.redo_view.specs.Written.{WroteAll, WroteUntilFailed}
use Rattle.redo_page.proofs.FormLemmas.{texts_html, texts_state}
use Rattle.redo_page.proofs.tree.TreeFormForm.write_texts.Goals as goal

pub returns-in_err-put_texts-clause-wrote : goal.returns-in_err-put_texts-clause-wrote
returns-in_err-put_texts-clause-wrote g c =
    let given = err_from_is_err_and c.from_residual.result c.from_residual.ensures.1 in
    rw (given.1, given.2)
    (subst (λ text. WroteUntilFailed (g.W.Sink.written c.args.out.now) (g.W.Sink.written c.put_texts.new.out) text)
    (sym (texts_html c.args._depth c.args.self.now (ended c.args.lines.now))) c.in_err-put_texts.ensures.wrote)

pub returns-clause-wrote : goal.returns-clause-wrote
returns-clause-wrote g c =
    subst (λ text. WroteAll (g.W.Sink.written c.args.out.now) (g.W.Sink.written c.put_texts.new.out) text)
    (sym (texts_html c.args._depth c.args.self.now (ended c.args.lines.now))) c.in_ok-put_texts.ensures.wrote

pub returns-clause-state : goal.returns-clause-state
returns-clause-state g c = rw (texts_state c.args._depth c.args.self.now (ended c.args.lines.now)) c.in_ok-put_texts.ensures.state
