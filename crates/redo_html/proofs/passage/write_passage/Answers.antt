use Rattle.std.proofs.Common.{◌≤◌, ℕ, List, [], Ok, Err, length, drop, ap, sym, ◌∙◌, subst, arith}
use Rattle.std.proofs.lemmas.List.{take_rest, length-drop, drop-drop, drop_all}
use Rattle.redo_device.specs.Sink.{Writes}
use Rattle.redo_html.specs.declared.look.Look.{Look}
use Rattle.redo_html.specs.Passage.{passage_html}
use Rattle.redo_html.specs.Private.Highlighting.{html_from}
use Rattle.redo_html.specs.Private.Writing.{WroteUpTo, WroteSome, style_in}
use Rattle.redo_html.proofs.PassageGroups.{passage_is}
use Rattle.redo_html.proofs.WritingLemmas.{begin_parts, wrote_on, wrote_rest, passage_failed}
use Rattle.redo_html.proofs.StyleLemmas.{ended_style}
use Rattle.redo_html.proofs.passage.write_passage.Goals as goal

pub loop-done-init : goal.loop-done-init
loop-done-init g c = record {
  within = omega arith;
  wrote = begin_parts _ _ _ (ap (λ look. html_from c.args.kind look c.args.bytes.now) c.at_start-look.ensures
      ∙ sym (passage_is c.args.kind c.args.style c.args.bytes.now));
  style_left = ap (λ look. style_in c.args.kind look.wanted c.args.bytes.now) c.at_start-look.ensures;
}

pub returns-in_err-done : goal.returns-in_err-done
returns-in_err-done g c =
    let bytes = c.args.bytes.now in
    let done = c.loop-done.done in
    let middle = g.W.Sink.written c.loop-done.out in
    let after = g.W.Sink.written c.write_some.new.out in
    let wrote : Writes middle after (html_from c.args.kind c.loop-done.look (drop done bytes)) (Err c.in_err-done.field-0.0) =
    subst (λ (rest : List ℕ). Writes middle after (html_from c.args.kind c.loop-done.look rest) (Err c.in_err-done.field-0.0))
    (take_rest bytes done) c.in_err-done.ensures in
    passage_failed _ _ c.args.kind c.args.style bytes c.in_err-done.field-0.0 _ c.from_residual.ensures.0
    (wrote_rest _ middle after (passage_html c.args.kind c.args.style bytes) (html_from c.args.kind c.loop-done.look (drop done bytes))
    (Err c.in_err-done.field-0.0) c.loop-done.invariant.wrote wrote)

pub loop-done-preserved : goal.loop-done-preserved
loop-done-preserved g c =
    let before = g.W.Sink.written c.args.out.now in
    let bytes = c.args.bytes.now in
    let done = c.loop-done.done in
    let middle = g.W.Sink.written c.loop-done.out in
    let after = g.W.Sink.written c.write_some.new.out in
    let next : Look = c.write_some.new.look in
    let len : ℕ = c.in_ok-done.field-0 in
    let some : WroteSome middle after c.args.kind c.loop-done.look (drop done bytes) next len =
    subst (λ (rest : List ℕ). WroteSome middle after c.args.kind c.loop-done.look rest next len)
    (take_rest bytes done) c.in_ok-done.ensures in
    let within = some.within in
    let rest = length-drop done bytes in
    record {
      within = omega arith;
      wrote = subst (λ (left : List ℕ). WroteUpTo before after (passage_html c.args.kind c.args.style bytes)
          (html_from c.args.kind next left)) (drop-drop len done bytes)
          (wrote_on before middle after _ _ _ c.loop-done.invariant.wrote some.wrote);
      style_left = ap (style_in c.args.kind next.wanted) (sym (drop-drop len done bytes)) ∙ some.style
          ∙ c.loop-done.invariant.style_left;
    }

pub returns-in_err-write_end : goal.returns-in_err-write_end
returns-in_err-write_end g c =
    let bytes = c.args.bytes.now in
    let before = g.W.Sink.written c.args.out.now in
    let middle = g.W.Sink.written c.loop-done.out in
    let past : length bytes ≤ c.loop-done.done = c.loop-done-test.false in
    passage_failed before _ c.args.kind c.args.style bytes _ _ c.from_residual-in_err-write_end.ensures.0
    (wrote_rest before middle _ (passage_html c.args.kind c.args.style bytes) (html_from c.args.kind c.loop-done.look []) (Err _)
    (subst (λ (left : List ℕ). WroteUpTo before middle (passage_html c.args.kind c.args.style bytes)
    (html_from c.args.kind c.loop-done.look left)) (drop_all c.loop-done.done bytes past) c.loop-done.invariant.wrote)
    c.in_err-write_end.ensures)

pub returns : goal.returns
returns g c =
    let bytes = c.args.bytes.now in
    let before = g.W.Sink.written c.args.out.now in
    let middle = g.W.Sink.written c.loop-done.out in
    let past : length bytes ≤ c.loop-done.done = c.loop-done-test.false in (
      wrote_rest before middle _ (passage_html c.args.kind c.args.style bytes) (html_from c.args.kind c.loop-done.look []) (Ok tt)
          (subst (λ (left : List ℕ). WroteUpTo before middle (passage_html c.args.kind c.args.style bytes)
          (html_from c.args.kind c.loop-done.look left)) (drop_all c.loop-done.done bytes past) c.loop-done.invariant.wrote)
          c.in_ok-write_end.ensures,
      ended_style c.args.kind c.args.style c.loop-done.look.wanted bytes c.loop-done.done past c.loop-done.invariant.style_left,
    )
