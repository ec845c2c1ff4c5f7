use Rattle.std.proofs.Common.{ℕ, List, Err, drop, refl, ap, sym, ◌∙◌, subst, arith}
use Rattle.std.proofs.lemmas.List.{take_rest, length-drop, drop-drop}
use Rattle.redo_device.specs.Sink.{Writes}
use Rattle.redo_html.specs.declared.look.Look.{Look}
use Rattle.redo_html.specs.Private.Highlighting.{html_from}
use Rattle.redo_html.specs.Private.Writing.{WroteUpTo, WroteSome, style_in}
use Rattle.redo_html.proofs.WritingLemmas.{begin_parts, some_failed, wrote_on, wrote_rest}
use Rattle.redo_html.proofs.passage.write_rest.Goals as goal

pub loop-done-init : goal.loop-done-init
loop-done-init g c = record { within = omega arith; wrote = begin_parts _ _ _ refl; style_left = refl }

pub returns-in_err-done : goal.returns-in_err-done
returns-in_err-done g c =
    let bytes = c.args.bytes.now in
    let done = c.loop-done.done in
    let middle = g.W.Sink.written c.loop-done.out in
    let after = g.W.Sink.written c.write_some.new.out in
    let wrote : Writes middle after (html_from c.args.kind c.loop-done.look (drop done bytes)) (Err c.in_err-done.field-0.0) =
    subst (λ (rest : List ℕ). Writes middle after (html_from c.args.kind c.loop-done.look rest) (Err c.in_err-done.field-0.0))
    (take_rest bytes done) c.in_err-done.ensures in
    some_failed _ _ c.args.kind c.args.look.now bytes c.in_err-done.field-0.0 _ _ c.from_residual.ensures.0
    (wrote_rest _ middle after (html_from c.args.kind c.args.look.now bytes) (html_from c.args.kind c.loop-done.look (drop done bytes))
    (Err c.in_err-done.field-0.0) c.loop-done.invariant.wrote wrote)

pub loop-done-preserved : goal.loop-done-preserved
loop-done-preserved g c =
    let before = g.W.Sink.written c.args.out.now in
    let bytes = c.args.bytes.now in
    let done = c.loop-done.done in
    let middle = g.W.Sink.written c.loop-done.out in
    let after = g.W.Sink.written c.write_some.new.out in
    let next : Look = c.write_some.new.look in
    let len : ℕ = c.in_ok-done.field-0 in
    let some : WroteSome middle after c.args.kind c.loop-done.look (drop done bytes) next len =
    subst (λ (rest : List ℕ). WroteSome middle after c.args.kind c.loop-done.look rest next len)
    (take_rest bytes done) c.in_ok-done.ensures in
    let within = some.within in
    let rest = length-drop done bytes in
    record {
      within = omega arith;
      wrote = subst (λ (left : List ℕ). WroteUpTo before after (html_from c.args.kind c.args.look.now bytes)
          (html_from c.args.kind next left)) (drop-drop len done bytes)
          (wrote_on before middle after _ _ _ c.loop-done.invariant.wrote some.wrote);
      style_left = ap (style_in c.args.kind next.wanted) (sym (drop-drop len done bytes)) ∙ some.style
          ∙ c.loop-done.invariant.style_left;
    }

pub returns : goal.returns
returns g c =
    let past = c.loop-done-test.false in
    let some = c.requires in
    record {
      some = omega (arith, past, some);
      within = c.loop-done.invariant.within;
      wrote = c.loop-done.invariant.wrote;
      style = c.loop-done.invariant.style_left;
    }
