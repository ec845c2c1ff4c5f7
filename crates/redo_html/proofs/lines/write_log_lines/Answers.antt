use Rattle.std.proofs.Common.{ℕ, List, [], ◌++◌, Ok, Err, drop, refl, sym, ◌∙◌, ap, subst, arith}
use Rattle.std.proofs.lemmas.List.{append-nil, take_rest, length-drop, drop-drop, drop_all}
use Rattle.redo_line.specs.Lines.{ended, rest}
use Rattle.redo_line.proofs.LineLemmas.{ended-free}
use Rattle.redo_html.specs.Lines.{lines_html, style_after_lines}
use Rattle.redo_html.specs.Private.Buffering.{held, PutLines, PutSomeLines}
use Rattle.redo_html.specs.Private.Writing.{WroteUpTo}
use Rattle.redo_html.proofs.WritingLemmas.{begin_parts, same_error, wrote_on, wrote_rest}
use Rattle.redo_html.proofs.lines.write_log_lines.Goals as goal

pub loop-done-init : goal.loop-done-init
loop-done-init g c =
    let html = lines_html c.args.style.now (ended c.args.lines.now) in
    record {
      within = omega arith;
      complete = c.requires.complete;
      wrote = begin_parts _ html (held c.new-buffer.result ++ html) (ap (λ (h : List ℕ). h ++ html) c.new-buffer.ensures);
      style_left = refl;
    }

pub returns-in_err-next-clause-written : goal.returns-in_err-next-clause-written
returns-in_err-next-clause-written g c =
    let lines = c.args.lines.now in
    let left = take_rest lines c.loop-done.done in
    let style = c.loop-done.current in
    let middle = g.W.Sink.written c.loop-done.out in
    let after = g.W.Sink.written c.write_some_lines.new.out in
    let old = held c.loop-done.buffer in
    let html = lines_html c.args.style.now (ended lines) in
    same_error _ after html c.in_err-next.field-0.0 _ c.from_residual.ensures.0
    (wrote_rest _ middle after html (old ++ lines_html style (ended (drop c.loop-done.done lines))) (Err c.in_err-next.field-0.0)
    c.loop-done.invariant.wrote
    (subst (λ (l : List ℕ). PutLines middle after old style l (held c.write_some_lines.new.buffer) (Err c.in_err-next.field-0.0))
    left c.in_err-next.ensures))

pub loop-done-preserved : goal.loop-done-preserved
loop-done-preserved g c =
    let lines = c.args.lines.now in
    let done = c.loop-done.done in
    let left = take_rest lines done in
    let style = c.loop-done.current in
    let next = c.in_ok-next.next in
    let len = c.in_ok-next.len in
    let before = g.W.Sink.written c.args.out.now in
    let middle = g.W.Sink.written c.loop-done.out in
    let after = g.W.Sink.written c.write_some_lines.new.out in
    let old = held c.loop-done.buffer in
    let now = held c.write_some_lines.new.buffer in
    let html = lines_html c.args.style.now (ended lines) in
    let put : PutSomeLines middle after old style (drop done lines) now next len =
    subst (λ (l : List ℕ). PutSomeLines middle after old style l now next len) left c.in_ok-next.ensures in
    let behind = drop-drop len done lines in
    let within = put.within in
    let size = length-drop done lines in
    record {
      within = omega (arith, within, size, c.loop-done.invariant.within);
      complete = ap rest (sym behind) ∙ put.complete;
      wrote = subst (λ (l : List ℕ). WroteUpTo before after html (now ++ lines_html next (ended l))) behind
          (wrote_on before middle after html (old ++ lines_html style (ended (drop done lines)))
          (now ++ lines_html next (ended (drop len (drop done lines)))) c.loop-done.invariant.wrote put.wrote);
      style_left = ap (λ (l : List ℕ). style_after_lines next (ended l)) (sym behind) ∙ put.style_left ∙ c.loop-done.invariant.style_left;
    }

pub returns-in_err-flush-clause-written : goal.returns-in_err-flush-clause-written
returns-in_err-flush-clause-written g c =
    let lines = c.args.lines.now in
    let before = g.W.Sink.written c.args.out.now in
    let middle = g.W.Sink.written c.loop-done.out in
    let html = lines_html c.args.style.now (ended lines) in
    let old = held c.loop-done.buffer in
    same_error before _ html _ _ c.from_residual-in_err-flush.ensures.0
    (wrote_rest before middle _ html old (Err _) (subst (WroteUpTo before middle html)
    (ap (λ (ls : List (List ℕ)). old ++ lines_html c.loop-done.current ls)
    (ap ended (drop_all c.loop-done.done lines c.loop-done-test.false) ∙ ended-free [] tt) ∙ append-nil old) c.loop-done.invariant.wrote)
    c.in_err-flush.ensures.written)

pub returns-clause-written : goal.returns-clause-written
returns-clause-written g c =
    let lines = c.args.lines.now in
    let before = g.W.Sink.written c.args.out.now in
    let middle = g.W.Sink.written c.loop-done.out in
    let html = lines_html c.args.style.now (ended lines) in
    let old = held c.loop-done.buffer in
    wrote_rest before middle _ html old (Ok tt) (subst (WroteUpTo before middle html)
    (ap (λ (ls : List (List ℕ)). old ++ lines_html c.loop-done.current ls)
    (ap ended (drop_all c.loop-done.done lines c.loop-done-test.false) ∙ ended-free [] tt) ∙ append-nil old) c.loop-done.invariant.wrote)
    c.in_ok-flush.ensures.written

pub returns-clause-style : goal.returns-clause-style
returns-clause-style g c =
    let lines = c.args.lines.now in
    sym (ap (style_after_lines c.loop-done.current) (ap ended (drop_all c.loop-done.done lines c.loop-done-test.false) ∙ ended-free [] tt))
    ∙ c.loop-done.invariant.style_left
