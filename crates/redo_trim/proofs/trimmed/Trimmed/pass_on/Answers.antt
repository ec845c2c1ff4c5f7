use Rattle.std.proofs.Common.{rules, sym, subst}
use Rattle.redo_line.specs.Lines.{ended}
use Rattle.redo_view.specs.Form.{FormWrites}
use Rattle.redo_view.specs.Written.{WroteAll}
use Rattle.redo_trim.proofs.LineLemmas.{bytes_kept, state_kept}
use Rattle.redo_trim.proofs.trimmed.Trimmed.pass_on.Goals as goal

pub returns-in_err-write_texts-clause-wrote : goal.returns-in_err-write_texts-clause-wrote
returns-in_err-write_texts-clause-wrote g c =
    let before = g.W.Sink.written c.args.out.now in
    let after = g.W.Sink.written c.write_texts.new.out in
    subst (λ text. FormWrites before after text c.from_residual.result)
    (sym (bytes_kept g.F.Form.bytes g.F.Form.after c.args.depth c.args.self.now (ended c.args.lines.now) c.requires.fits c.requires.all))
    (search rules)

pub returns-clause-wrote : goal.returns-clause-wrote
returns-clause-wrote g c =
    subst (λ text. WroteAll (g.W.Sink.written c.args.out.now) (g.W.Sink.written c.write_texts.new.out) text)
    (sym (bytes_kept g.F.Form.bytes g.F.Form.after c.args.depth c.args.self.now (ended c.args.lines.now) c.requires.fits c.requires.all))
    c.in_ok-write_texts.ensures.wrote

pub returns-clause-state : goal.returns-clause-state
returns-clause-state g c =
    rw (state_kept g.F.Form.bytes g.F.Form.after c.args.depth c.args.self.now c.args.lines.now c.requires.complete c.requires.some
    c.requires.fits c.requires.all)
    (rw (c.in_ok-write_texts.ensures.state, c.add_text.ensures))
