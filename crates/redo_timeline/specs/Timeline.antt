-- The layout of a timeline.
use Rattle.std.specs.Prelude.{ℕ, ◌+◌, List, [], ◌∷◌, ◌++◌, length, map}
use Rattle.redo_timeline.specs.declared.bar.Bar.{Bar}
use Rattle.redo_timeline.specs.declared.span.Span.{Span}
use Rattle.redo_timeline.specs.declared.span.Window.{Window}
use Rattle.redo_timeline.specs.Bars.{bar_of, bars_in}
use Rattle.redo_timeline.specs.Lanes.{lanes_of}

-- A drawing: the bars, and the number of lanes that they take.
pub record Drawing : Type 0 where
  pub bars : List Bar
  pub lane_count : ℕ

-- The bars of each lane, given by their spans.
abbrev pub bars_of : Window → ℕ → List Span → List (List (List Span))
bars_of window max_lanes spans = map (bars_in window) (lanes_of max_lanes spans)

-- The bars of some lanes, as they are drawn. The first lane has the number `lane`.
abbrev pub drawn_bars : Window → ℕ → List (List (List Span)) → List Bar
drawn_bars window lane [] = []
drawn_bars window lane (bars ∷ lanes) = map (bar_of window lane) bars ++ drawn_bars window (lane + 1) lanes

-- The timeline of some spans.
abbrev pub timeline_of : Window → ℕ → List Span → Drawing
timeline_of window max_lanes spans = record {
  bars = drawn_bars window 0 (bars_of window max_lanes spans);
  lane_count = length (lanes_of max_lanes spans);
}
