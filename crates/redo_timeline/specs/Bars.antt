-- The bars that are drawn of the spans in a lane.
use Rattle.std.specs.Prelude.{ℕ, ◌-◌, ◌*◌, ◌/◌, ◌^◌, ◌<◌, max, min, Bool, not, ◌&&◌, ltb, List, [], ◌∷◌, ◌++◌, length, if◌then◌else◌}
use Rattle.std.specs.List.{list_all, list_any}
use Rattle.redo_timeline.specs.declared.bar.Bar.{Bar}
use Rattle.redo_timeline.specs.declared.span.Span.{Span}
use Rattle.redo_timeline.specs.declared.span.Window.{Window}
use Rattle.redo_timeline.specs.Lanes.{ended_of}

-- A window has a width of at least one millisecond, and of some 557 years at most.
abbrev pub IsValidWindow : Window → Type 0
IsValidWindow window = (0 < window.width) × (window.width < 2 ^ 44)

-- Where a time is drawn, in hundredths of a percent of the width. A time outside the window is drawn at its edge.
abbrev pub units : Window → ℕ → ℕ
units window time = min (time - window.began) window.width * 10000 / window.width

-- When the first of some spans began, and its position.
abbrev pub began_of : List Span → ℕ
began_of [] = 0
began_of (span ∷ rest) = span.began

abbrev pub position_of : List Span → ℕ
position_of [] = 0
position_of (span ∷ rest) = span.position

-- Whether a span is narrower than 0.2 %. A span that failed is never narrow.
abbrev pub is_narrow : Window → Span → Bool
is_narrow window span = not span.failed && ltb (units window span.ended - units window span.began) 20

-- Whether a span joins the bar before it, which has these spans: they and the span are narrow, it begins within 0.1 % of the end
-- of the bar, and with it the bar is narrower than 0.5 %.
abbrev pub joins : Window → List Span → Span → Bool
joins window bar span =
    is_narrow window span && list_all (is_narrow window) bar && ltb (units window span.began - units window (ended_of bar)) 10
    && ltb (units window span.ended - units window (began_of bar)) 50

-- A bar and the bars after it in its lane, of its spans so far and the spans that are left. A bar is given by its spans.
abbrev pub bars_from : Window → List Span → List Span → List (List Span)
bars_from window bar [] = bar ∷ []
bars_from window bar (span ∷ rest) =
    if joins window bar span then bars_from window (bar ++ span ∷ []) rest else bar ∷ bars_from window (span ∷ []) rest

-- The bars of a lane.
abbrev pub bars_in : Window → List Span → List (List Span)
bars_in window [] = []
bars_in window (span ∷ rest) = bars_from window (span ∷ []) rest

-- Whether the target of a bar failed.
abbrev pub has_failed : List Span → Bool
has_failed bar = list_any (λ (span : Span). span.failed) bar

-- How wide a bar is, by its times.
abbrev pub width_of : Window → List Span → ℕ
width_of window bar = units window (ended_of bar) - units window (began_of bar)

-- The bar, as it is drawn. A bar is at least 0.1 % wide, and one that failed at least 0.3 %.
abbrev pub bar_of : Window → ℕ → List Span → Bar
bar_of window lane bar = record {
  lane = lane;
  x = units window (began_of bar);
  width = max (width_of window bar) (if has_failed bar then 30 else 10);
  position = position_of bar;
  count = length bar;
  began = began_of bar;
  ended = ended_of bar;
  failed = has_failed bar;
}
