use Rattle.std.proofs.Common.{◌≡◌, ◌*◌, map}
use Rattle.std.specs.List.{range_with_len}
use Rattle.redo_units.specs.Ticks.{tick_text}
use Rattle.redo_chart.specs.Private.Fitting.{texts_in}
use Rattle.redo_chart.proofs.axis.tick_texts.Given as goal

abbrev pub invariant-loop-i : goal.invariant-loop-i
invariant-loop-i l = texts_in l.texts.items ≡ map (λ i. tick_text (i * l.step) l.step) (range_with_len 0 l.i)
