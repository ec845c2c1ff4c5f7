use Rattle.std.proofs.Common.{sym, subst}
use Rattle.std.proofs.lemmas.Result.{err_from_is_err_and}
use Rattle.redo_view.specs.EventRef.{event_value}
use Rattle.redo_view.specs.Written.{WrotePrefix}
use Rattle.redo_trim.proofs.FormLemmas.{all_is_prefix, alone_bytes}
use Rattle.redo_trim.proofs.trimmed.TrimmedForm.write.Goals as goal

pub returns-in_err-follow-clause-wrote : goal.returns-in_err-follow-clause-wrote
returns-in_err-follow-clause-wrote g c =
    let given = err_from_is_err_and c.from_residual-in_err-follow.result c.from_residual-in_err-follow.ensures.1 in
    let before = g.W.Sink.written c.args.out.now in
    let after = g.W.Sink.written c.write.new.out in
    let bytes = g.F.Form.bytes in
    let form = c.args.self.now in
    let event = c.args.event in
    rw (given.1, given.2)
    (subst (WrotePrefix before after) (sym (alone_bytes bytes g.F.Form.after form event c.requires))
    (all_is_prefix before after (bytes form.form (event_value event)) c.in_ok-write.ensures.wrote))
