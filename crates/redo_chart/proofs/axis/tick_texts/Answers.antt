use Rattle.std.proofs.Common.{◌*◌}
use Rattle.redo_units.specs.Ticks.{tick_text}
use Rattle.redo_chart.proofs.ChartLemmas.{tick_more}
use Rattle.redo_chart.proofs.axis.tick_texts.Goals as goal

pub loop-i-preserved : goal.loop-i-preserved
loop-i-preserved c =
    let step = c.tick_step-step.result in
    tick_more (λ i. tick_text (i * step) step) c.loop-i.texts.items c.push.new.self.items c.in_ok-text_of.field-0 c.loop-i.i
    c.loop-i.invariant c.in_ok-push.ensures.items c.in_ok-text_of.ensures
