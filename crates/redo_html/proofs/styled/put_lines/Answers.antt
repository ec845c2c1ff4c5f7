use Rattle.std.proofs.Common.{◌+◌, ◌++◌, ℕ, List, [], Err, drop, sym, ◌∙◌, ap, subst, arith}
use Rattle.redo_line.specs.Lines.{ended}
use Rattle.redo_html.specs.declared.look.Look.{Look}
use Rattle.redo_html.specs.declared.style.Style.{Style}
use Rattle.redo_html.specs.Lines.{lines_html, style_after_lines}
use Rattle.redo_html.specs.declared.text_kind.TextKind.TheVariants.{Log}
use Rattle.redo_html.specs.Private.Highlighting.{html_from}
use Rattle.redo_html.specs.Private.Buffering.{held, html_left}
use Rattle.redo_html.specs.Private.Writing.{WroteUpTo}
use Rattle.redo_html.proofs.LineBuffering.{all_wrote, last_left, lines_failed_as, line_complete, line_failed, line_style, line_wrote, start_left, step_bounds, step_complete, step_failed, step_style, step_wrote}
use Rattle.redo_html.proofs.WritingLemmas.{begin_parts, same_error, wrote_on, wrote_rest}
use Rattle.redo_html.proofs.styled.put_lines.Goals as goal

pub loop-done-init : goal.loop-done-init
loop-done-init g c =
    let lines = c.args.lines.now in
    let old = held c.args.buffer.now in
    record {
      within = omega arith;
      complete = c.requires.complete;
      wrote = begin_parts _ _ _ (ap (λ (l : Look). old ++ html_left l (ended lines)) c.at_start-look.ensures
          ∙ ap (λ (t : List ℕ). old ++ t) (start_left c.args.style (ended lines)));
      style_left = ap (λ (l : Look). style_after_lines l.wanted (ended lines)) c.at_start-look.ensures;
    }

pub returns-in_err-done : goal.returns-in_err-done
returns-in_err-done g c =
    lines_failed_as _ _ (held c.args.buffer.now) c.args.style c.args.lines.now (held c.put_some.new.buffer) _
    (λ ended_with failed. step_failed c.args.lines.now c.loop-done.done c.loop-done.invariant.complete c.loop-done-test.true
    _ _ _ _ c.loop-done.look c.loop-done.invariant.wrote _ c.in_err-done.field-0.0 ended_with failed c.in_err-done.ensures)
    c.from_residual.ensures.0

pub overflow_add-done : goal.overflow_add-done
overflow_add-done g c =
    let bounds = step_bounds c.args.lines.now c.loop-done.done c.loop-done.invariant.complete c.loop-done-test.true
    _ _ _ _ _ _ _ c.in_ok-done.ensures in
    let fits = c.type_inv.lines in
    omega (arith, bounds.1)

pub overflow_sub-done : goal.overflow_sub-done
overflow_sub-done g c =
    let bounds = step_bounds c.args.lines.now c.loop-done.done c.loop-done.invariant.complete c.loop-done-test.true
    _ _ _ _ _ _ _ c.in_ok-done.ensures in
    omega (arith, bounds.0)

pub bounds-lines-done : goal.bounds-lines-done
bounds-lines-done g c =
    let bounds = step_bounds c.args.lines.now c.loop-done.done c.loop-done.invariant.complete c.loop-done-test.true
    _ _ _ _ _ _ _ c.in_ok-done.ensures in
    omega (arith, bounds.0, bounds.1)

pub returns-in_err-put_end : goal.returns-in_err-put_end
returns-in_err-put_end g c =
    lines_failed_as _ _ (held c.args.buffer.now) c.args.style c.args.lines.now (held c.put_end.new.buffer) _
    (λ ended_with failed. line_failed c.args.lines.now c.loop-done.done c.loop-done.invariant.complete c.loop-done-test.true
    _ _ _ _ c.loop-done.look c.loop-done.invariant.wrote _ _ _ c.in_ok-done.field-0 c.in_ok-done.ensures
    c.if-lines-done-eq10.true _ c.in_err-put_end.field-0.0 ended_with failed c.in_err-put_end.ensures)
    c.from_residual-in_err-put_end.ensures.0

pub returns-then-not-has_own_element : goal.returns-then-not-has_own_element
returns-then-not-has_own_element g c =
    let lines = c.args.lines.now in
    let next = c.loop-done.done + c.in_ok-done.field-0 in
    let bounds = step_bounds c.args.lines.now c.loop-done.done c.loop-done.invariant.complete c.loop-done-test.true
    _ _ _ _ _ _ _ c.in_ok-done.ensures in
    let wanted = ap (λ (l : Look). l.wanted) c.at_start-look-then-lines-done-eq10.ensures in
    let text = held c.args.buffer.now ++ lines_html c.args.style (ended lines) in
    let kept = held c.put_end.new.buffer in
    record {
      some = omega (arith, bounds.0);
      within = bounds.1;
      complete = line_complete c.args.lines.now c.loop-done.done c.loop-done.invariant.complete c.loop-done-test.true
          _ _ _ _ c.loop-done.look c.loop-done.invariant.wrote _ _ _ c.in_ok-done.field-0 c.in_ok-done.ensures c.if-lines-done-eq10.true;
      wrote = subst (λ (s : Style). WroteUpTo (g.W.Sink.written c.args.out.now) (g.W.Sink.written c.put_end.new.out) text
          (kept ++ lines_html s (ended (drop next lines)))) (sym wanted)
          (line_wrote c.args.lines.now c.loop-done.done c.loop-done.invariant.complete c.loop-done-test.true
          _ _ _ _ c.loop-done.look c.loop-done.invariant.wrote _ _ _ c.in_ok-done.field-0 c.in_ok-done.ensures c.if-lines-done-eq10.true _
          _ c.in_ok-put_end.ensures);
      style_left = ap (λ (s : Style). style_after_lines s (ended (drop next lines))) wanted
          ∙ line_style c.args.lines.now c.loop-done.done c.loop-done.invariant.complete c.loop-done-test.true
          _ _ _ _ c.loop-done.look c.loop-done.invariant.wrote _ _ _ c.in_ok-done.field-0 c.in_ok-done.ensures c.if-lines-done-eq10.true
          ∙ c.loop-done.invariant.style_left;
    }

pub loop-done-smaller-else-done-ge-WINDOW : goal.loop-done-smaller-else-done-ge-WINDOW
loop-done-smaller-else-done-ge-WINDOW g c =
    let bounds = step_bounds c.args.lines.now c.loop-done.done c.loop-done.invariant.complete c.loop-done-test.true
    _ _ _ _ _ _ _ c.in_ok-done.ensures in
    omega (arith, bounds.0, bounds.1)

pub loop-done-preserved-else-done-ge-WINDOW : goal.loop-done-preserved-else-done-ge-WINDOW
loop-done-preserved-else-done-ge-WINDOW g c =
    let lines = c.args.lines.now in
    let next = c.loop-done.done + c.in_ok-done.field-0 in
    let bounds = step_bounds c.args.lines.now c.loop-done.done c.loop-done.invariant.complete c.loop-done-test.true
    _ _ _ _ _ _ _ c.in_ok-done.ensures in
    let look_is = c.at_start-look-then-lines-done-eq10.ensures in
    let wanted = ap (λ (l : Look). l.wanted) look_is in
    let text = held c.args.buffer.now ++ lines_html c.args.style (ended lines) in
    let kept = held c.put_end.new.buffer in
    record {
      within = bounds.1;
      complete = line_complete c.args.lines.now c.loop-done.done c.loop-done.invariant.complete c.loop-done-test.true
          _ _ _ _ c.loop-done.look c.loop-done.invariant.wrote _ _ _ c.in_ok-done.field-0 c.in_ok-done.ensures c.if-lines-done-eq10.true;
      wrote = subst (λ (t : List ℕ). WroteUpTo (g.W.Sink.written c.args.out.now) (g.W.Sink.written c.put_end.new.out) text (kept ++ t))
          (sym (ap (λ (l : Look). html_left l (ended (drop next lines))) look_is ∙ start_left _ (ended (drop next lines))))
          (line_wrote c.args.lines.now c.loop-done.done c.loop-done.invariant.complete c.loop-done-test.true
          _ _ _ _ c.loop-done.look c.loop-done.invariant.wrote _ _ _ c.in_ok-done.field-0 c.in_ok-done.ensures c.if-lines-done-eq10.true _
          _ c.in_ok-put_end.ensures);
      style_left = ap (λ (s : Style). style_after_lines s (ended (drop next lines))) wanted
          ∙ line_style c.args.lines.now c.loop-done.done c.loop-done.invariant.complete c.loop-done-test.true
          _ _ _ _ c.loop-done.look c.loop-done.invariant.wrote _ _ _ c.in_ok-done.field-0 c.in_ok-done.ensures c.if-lines-done-eq10.true
          ∙ c.loop-done.invariant.style_left;
    }

pub loop-done-smaller : goal.loop-done-smaller
loop-done-smaller g c =
    let bounds = step_bounds c.args.lines.now c.loop-done.done c.loop-done.invariant.complete c.loop-done-test.true
    _ _ _ _ _ _ _ c.in_ok-done.ensures in
    omega (arith, bounds.0, bounds.1)

pub loop-done-preserved : goal.loop-done-preserved
loop-done-preserved g c =
    let bounds = step_bounds c.args.lines.now c.loop-done.done c.loop-done.invariant.complete c.loop-done-test.true
    _ _ _ _ _ _ _ c.in_ok-done.ensures in
    record {
      within = bounds.1;
      complete = step_complete c.args.lines.now c.loop-done.done c.loop-done.invariant.complete c.loop-done-test.true
          _ _ _ _ c.loop-done.look c.loop-done.invariant.wrote _ _ _ c.in_ok-done.field-0 c.in_ok-done.ensures c.if-lines-done-eq10.false;
      wrote = step_wrote c.args.lines.now c.loop-done.done c.loop-done.invariant.complete c.loop-done-test.true
          _ _ _ _ c.loop-done.look c.loop-done.invariant.wrote _ _ _ c.in_ok-done.field-0 c.in_ok-done.ensures c.if-lines-done-eq10.false;
      style_left = step_style c.args.lines.now c.loop-done.done c.loop-done.invariant.complete c.loop-done-test.true
          _ _ _ _ c.loop-done.look c.loop-done.invariant.wrote _ _ _ c.in_ok-done.field-0 c.in_ok-done.ensures c.if-lines-done-eq10.false
          ∙ c.loop-done.invariant.style_left;
    }

pub returns-in_err-put_end-2 : goal.returns-in_err-put_end-2
returns-in_err-put_end-2 g c =
    let lines = c.args.lines.now in
    let done = c.loop-done.done in
    let past = c.loop-done-test.false in
    let before = g.W.Sink.written c.args.out.now in
    let old = held c.args.buffer.now in
    lines_failed_as _ _ old c.args.style lines (held c.put_end-2.new.buffer) _
    (λ ended_with failed. same_error before _ (old ++ lines_html c.args.style (ended lines)) c.in_err-put_end-2.field-0.0 ended_with failed
    (wrote_rest before _ _ (old ++ lines_html c.args.style (ended lines)) (held c.loop-done.buffer ++ html_from Log c.loop-done.look [])
    (Err c.in_err-put_end-2.field-0.0)
    (last_left before _ old (held c.loop-done.buffer) c.args.style lines done past c.loop-done.look c.loop-done.invariant.wrote)
    c.in_err-put_end-2.ensures)) c.from_residual-in_err-put_end-2.ensures.0

pub returns : goal.returns
returns g c =
    let lines = c.args.lines.now in
    let done = c.loop-done.done in
    let past = c.loop-done-test.false in
    let some = c.requires.some in
    let before = g.W.Sink.written c.args.out.now in
    let old = held c.args.buffer.now in
    record {
      some = omega (arith, past, some);
      within = c.loop-done.invariant.within;
      complete = c.loop-done.invariant.complete;
      wrote = all_wrote before _ old (held c.put_end-2.new.buffer) c.args.style lines done past c.loop-done.look.wanted
          (wrote_on before _ _ _ _ _ (last_left before _ old (held c.loop-done.buffer) c.args.style lines done past c.loop-done.look
          c.loop-done.invariant.wrote) c.in_ok-put_end-2.ensures);
      style_left = c.loop-done.invariant.style_left;
    }
