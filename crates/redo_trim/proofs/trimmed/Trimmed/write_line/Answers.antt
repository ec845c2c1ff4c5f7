use Rattle.std.proofs.Common.{rules, sym, subst, ◌∙◌, ap}
use Rattle.redo_line.specs.Lines.{ended}
use Rattle.redo_view.specs.Form.{FormWrites, bytes_of}
use Rattle.redo_view.specs.Written.{WroteAll}
use Rattle.redo_trim.specs.Private.Writing.{lines_shown}
use Rattle.redo_trim.proofs.LineLemmas.{one_bytes, one_state}
use Rattle.redo_trim.proofs.trimmed.Trimmed.write_line.Goals as goal

pub returns-in_err-write_shown-clause-wrote : goal.returns-in_err-write_shown-clause-wrote
returns-in_err-write_shown-clause-wrote g c =
    let before = g.W.Sink.written c.args.out.now in
    let after = g.W.Sink.written c.write_shown.new.out in
    subst (λ text. FormWrites before after text c.from_residual.result)
    (sym (one_bytes g.F.Form.bytes g.F.Form.after c.args.depth c.args.self.now c.args.line.now c.requires.line)) (search rules)

pub returns-clause-wrote : goal.returns-clause-wrote
returns-clause-wrote g c =
    let before = g.W.Sink.written c.args.out.now in
    let after = g.W.Sink.written c.write_shown.new.out in
    let form = c.args.self.now.form in
    subst (WroteAll before after)
    (ap (λ showing. bytes_of g.F.Form.bytes g.F.Form.after form (lines_shown showing c.args.depth (ended c.args.line.now)))
    c.showing-showing.ensures
    ∙ sym (one_bytes g.F.Form.bytes g.F.Form.after c.args.depth c.args.self.now c.args.line.now c.requires.line))
    c.in_ok-write_shown.ensures.wrote

pub returns-clause-state : goal.returns-clause-state
returns-clause-state g c =
    rw (one_state g.F.Form.bytes g.F.Form.after c.args.depth c.args.self.now c.args.line.now c.requires.line)
    (rw (c.in_ok-write_shown.ensures.state, c.add_text.ensures, c.showing-showing.ensures))
