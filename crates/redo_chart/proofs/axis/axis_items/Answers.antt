use Rattle.std.proofs.Common.{◌*◌, ◌/◌, ◌∷◌, [], map, ap, ◌∙◌, arith}
use Rattle.redo_html.specs.Chart.{shape_of}
use Rattle.redo_html.specs.Chart.Shape.{LineShape, TickShape}
use Rattle.redo_chart.proofs.ChartLemmas.{tick_drawn, tick_inside, tick_text_at, ticks_drawn}
use Rattle.redo_chart.proofs.axis.axis_items.Goals as goal

pub overflow_mul-x : goal.overflow_mul-x
overflow_mul-x c =
    let inside = tick_inside c.args.width c.tick_step-step.result c.loop-i.i c.args.texts.now c.tick_step-step.ensures.step c.requires.texts
    c.loop-i-test.true in
    let width = c.requires.width in omega (arith, inside, width)

pub overflow_mul-x-in-loop-i : goal.overflow_mul-x-in-loop-i
overflow_mul-x-in-loop-i c =
    let inside = tick_inside c.args.width c.tick_step-step.result c.loop-i.i c.args.texts.now c.tick_step-step.ensures.step c.requires.texts
    c.loop-i-test.true in
    let width = c.requires.width in omega (arith, inside, width)

pub loop-i-preserved : goal.loop-i-preserved
loop-i-preserved c =
    let width = c.args.width in
    let step = c.tick_step-step.result in
    let i = c.loop-i.i in
    let x = i * step * 10000 / width in
    let text = c.deref.ensures.value ∙ ap (λ text. text.items) c.index-texts-i.is
    ∙ tick_text_at width step i c.args.texts.now c.index-texts-i.result c.tick_step-step.ensures.step c.requires.texts c.loop-i-test.true in
    tick_drawn c.args.bottom width step i c.loop-i.items.items c.push.new.self.items c.push-in-loop-i.new.self.items _ _ c.loop-i.invariant
    c.in_ok-push.ensures.items c.in_ok-push-2.ensures.items
    (λ k. LineShape x c.args.bottom ∷ TickShape x (c.anchor_of.ensures k) (text k) ∷ [])

pub returns : goal.returns
returns c =
    let last = c.loop-i-test.false in
    let most = c.loop-i.auto.i-end in
    ticks_drawn c.args.bottom c.args.width c.tick_step-step.result c.loop-i.i c.args.texts.now
    (map shape_of c.loop-i.items.items) c.tick_step-step.ensures.step c.requires.texts (omega (arith, last, most)) c.loop-i.invariant
