use Rattle.std.proofs.Common.{sym, ap, ◌∙◌, subst}
use Rattle.std.proofs.lemmas.List.{append-nil}
use Rattle.redo_line.specs.Lines.{ended}
use Rattle.redo_view.specs.Form.{FormWrites, bytes_of}
use Rattle.redo_trim.specs.Private.Writing.{lines_shown}
use Rattle.redo_trim.specs.Trim.{marker}
use Rattle.redo_trim.proofs.trimmed.write_shown.Goals as goal

pub returns-in-Marker-clause-wrote : goal.returns-in-Marker-clause-wrote
returns-in-Marker-clause-wrote g c =
    let before = g.W.Sink.written c.args.out.now in
    let after = g.W.Sink.written c.write.new.out in
    let bytes = g.F.Form.bytes in
    let form = c.args.form.now in
    subst (λ text. FormWrites before after text c.write.result)
    (ap (bytes form) c.marker.ensures.is ∙ sym (append-nil (bytes form (marker c.args.depth)))
    ∙ ap (λ showing. bytes_of bytes g.F.Form.after form (lines_shown showing c.args.depth (ended c.args.lines.now))) (sym c.in-Marker.is))
    c.write.ensures.wrote
