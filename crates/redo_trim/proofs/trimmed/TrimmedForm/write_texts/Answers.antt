use Rattle.std.proofs.Common.{◌≡◌, ℕ, ◌+◌, List, [], ◌++◌, Err, take, drop, sym, ◌∙◌, ap, subst, arith}
use Rattle.std.proofs.lemmas.List.{take_rest, length-drop, drop-drop, drop_all}
use Rattle.std.proofs.lemmas.Result.{err_from_is_err_and}
use Rattle.redo_device.specs.Sink.{append_output}
use Rattle.redo_line.specs.Lines.{ended, rest}
use Rattle.redo_line.proofs.LineLemmas.{ended-free}
use Rattle.redo_view.specs.Form.{FormWrites, bytes_of, state_after, text_events}
use Rattle.redo_trim.specs.declared.trimmed.Trimmed.{Trimmed}
use Rattle.redo_trim.specs.TrimmedForm.{form_after, form_bytes}
use Rattle.redo_trim.specs.Private.Writing.{IsFirstLine, WroteUpTo}
use Rattle.redo_trim.proofs.LineLemmas.{complete_after, failed_part, last_part, next_bytes, state_next, wrote_all, wrote_more}
use Rattle.redo_trim.proofs.trimmed.TrimmedForm.write_texts.Goals as goal

pub returns-then-keeps_all-clause-wrote : goal.returns-then-keeps_all-clause-wrote
returns-then-keeps_all-clause-wrote g c =
    let lines = c.args.lines.now in
    let done = c.lines.done in
    let before = g.W.Sink.written c.args.out.now in
    let middle = g.W.Sink.written c.lines.out in
    let after = g.W.Sink.written c.pass_on.new.out in
    let bytes = form_bytes g.F.Form.bytes g.F.Form.after in
    let step = form_after g.F.Form.after in
    last_part before middle after (bytes_of bytes step c.args.self.now (text_events c.args.depth (ended lines)))
    (bytes_of bytes step c.lines.self (text_events c.args.depth (ended (drop done lines)))) c.pass_on.result c.lines.invariant.wrote
    (subst (λ (l : List ℕ). FormWrites middle after
    (bytes_of bytes step c.lines.self (text_events c.args.depth (ended l))) c.pass_on.result)
    (take_rest lines done) c.pass_on.ensures.wrote)

pub returns-in_err-write_line-clause-wrote : goal.returns-in_err-write_line-clause-wrote
returns-in_err-write_line-clause-wrote g c =
    let given = err_from_is_err_and c.from_residual.result c.from_residual.ensures.1 in
    let lines = c.args.lines.now in
    let done = c.lines.done in
    let left = drop done lines in
    let depth = c.args.depth in
    let size = c.first_line-size.result in
    let fault = c.in_err-write_line.field-0.0 in
    let before = g.W.Sink.written c.args.out.now in
    let middle = g.W.Sink.written c.lines.out in
    let after = g.W.Sink.written c.write_line.new.out in
    let bytes = form_bytes g.F.Form.bytes g.F.Form.after in
    let step = form_after g.F.Form.after in
    let text = bytes_of bytes step c.args.self.now (text_events depth (ended lines)) in
    let first : IsFirstLine left size = subst (λ (l : List ℕ). IsFirstLine l size) (take_rest lines done) c.first_line-size.ensures in
    let part = bytes_of bytes step c.lines.self (text_events depth (ended (take size left))) in
    let next = state_after step c.lines.self (text_events depth (ended (take size left))) in
    let others = bytes_of bytes step next (text_events depth (ended (drop size left))) in
    let so_far : WroteUpTo before middle text (part ++ others) =
    subst (WroteUpTo before middle text)
    (next_bytes bytes step depth c.lines.self left size first.is_line.complete) c.lines.invariant.wrote in
    let wrote : FormWrites middle after part (Err fault) =
    subst (λ (l : List ℕ). FormWrites middle after (bytes_of bytes step c.lines.self (text_events depth (ended (take size l)))) (Err fault))
    (take_rest lines done) c.in_err-write_line.ensures.wrote in
    rw (given.1, given.2) (failed_part before middle after text part others so_far fault wrote)

pub lines-preserved : goal.lines-preserved
lines-preserved g c =
    let lines = c.args.lines.now in
    let done = c.lines.done in
    let left = drop done lines in
    let depth = c.args.depth in
    let size = c.first_line-size.result in
    let before = g.W.Sink.written c.args.out.now in
    let middle = g.W.Sink.written c.lines.out in
    let after = g.W.Sink.written c.write_line.new.out in
    let bytes = form_bytes g.F.Form.bytes g.F.Form.after in
    let step = form_after g.F.Form.after in
    let now = c.write_line.new.self in
    let text = bytes_of bytes step c.args.self.now (text_events depth (ended lines)) in
    let first : IsFirstLine left size = subst (λ (l : List ℕ). IsFirstLine l size) (take_rest lines done) c.first_line-size.ensures in
    let part = bytes_of bytes step c.lines.self (text_events depth (ended (take size left))) in
    let next = state_after step c.lines.self (text_events depth (ended (take size left))) in
    let others = bytes_of bytes step next (text_events depth (ended (drop size left))) in
    let so_far : WroteUpTo before middle text (part ++ others) =
    subst (WroteUpTo before middle text)
    (next_bytes bytes step depth c.lines.self left size first.is_line.complete) c.lines.invariant.wrote in
    let wrote : after ≡ append_output middle part 0 =
    subst (λ (l : List ℕ). after ≡ append_output middle (bytes_of bytes step c.lines.self (text_events depth (ended (take size l)))) 0)
    (take_rest lines done) c.in_ok-write_line.ensures.wrote in
    let state : now ≡ next =
    subst (λ (l : List ℕ). now ≡ state_after step c.lines.self (text_events depth (ended (take size l))))
    (take_rest lines done) c.in_ok-write_line.ensures.state in
    let past = drop-drop size done lines in
    let within = first.within in
    let length_left = length-drop done lines in
    record {
      within = omega arith;
      complete = ap rest (sym past) ∙ complete_after left size first.is_line.complete c.lines.invariant.complete;
      wrote = subst (λ (l : List ℕ). WroteUpTo before after text (bytes_of bytes step now (text_events depth (ended l)))) past
          (subst (λ (f : Trimmed g.row.F.Denot).
          WroteUpTo before after text (bytes_of bytes step f (text_events depth (ended (drop size left))))) (sym state)
          (wrote_more before middle after text part others so_far wrote));
      state = state_next bytes step depth c.lines.self left size first.is_line.complete now (drop (done + size) lines) past state
          ∙ c.lines.invariant.state;
    }

pub returns-clause-wrote : goal.returns-clause-wrote
returns-clause-wrote g c =
    let before = g.W.Sink.written c.args.out.now in
    let after = g.W.Sink.written c.lines.out in
    let bytes = form_bytes g.F.Form.bytes g.F.Form.after in
    let step = form_after g.F.Form.after in
    let text = bytes_of bytes step c.args.self.now (text_events c.args.depth (ended c.args.lines.now)) in
    wrote_all before after text (subst (λ (ls : List (List ℕ)).
    WroteUpTo before after text (bytes_of bytes step c.lines.self (text_events c.args.depth ls)))
    (ap ended (drop_all c.lines.done c.args.lines.now c.lines-test.false) ∙ ended-free [] tt) c.lines.invariant.wrote)

pub returns-clause-state : goal.returns-clause-state
returns-clause-state g c =
    let step = form_after g.F.Form.after in
    sym (ap (λ (ls : List (List ℕ)). state_after step c.lines.self (text_events c.args.depth ls))
    (ap ended (drop_all c.lines.done c.args.lines.now c.lines-test.false) ∙ ended-free [] tt))
    ∙ c.lines.invariant.state
