-- Bars that can be drawn in a band, and texts that a chart borrows.
use Rattle.std.specs.Prelude.{ℕ, ◌+◌, ◌*◌, ◌^◌, ◌<◌, List, map}
use Rattle.std.specs.Global.{Vec}
use Rattle.std.specs.List.{All, range_with_len}
use Rattle.redo_units.specs.Ticks.{tick_step_of, tick_text}
use Rattle.redo_timeline.specs.declared.bar.Bar.{Bar}
use Rattle.redo_chart.specs.declared.band.Band.{Band}
use Rattle.redo_chart.specs.Axis.{last_tick}

-- The position of a bar fits into 64 bits.
abbrev pub Fits : Band → Bar → Type 0
Fits band bar = band.top + bar.lane * band.lane_height < 2 ^ 64

abbrev pub AllFit : Band → List Bar → Type 0
AllFit band bars = All (Fits band) bars

abbrev pub texts_in : List (Vec ℕ) → List (List ℕ)
texts_in texts = map (λ text. text.items) texts

-- The texts of the ticks for a width in milliseconds.
abbrev pub tick_texts : ℕ → List (List ℕ)
tick_texts width = map (λ i. tick_text (i * tick_step_of width) (tick_step_of width)) (range_with_len 0 (last_tick width + 1))
