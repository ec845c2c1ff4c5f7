-- Rows of a week, of quotients that leave a rest, and of many spans.
use Rattle.std.proofs.Common.{◌≡◌, ℕ, zero, suc, true, false, List, [], ◌∷◌, length, map, replicate, refl}
use Rattle.redo_timeline.specs.declared.span.Span.{Span}
use Rattle.redo_timeline.specs.declared.span.Window.{Window}
use Rattle.redo_timeline.specs.Bars.{bar_of, joins, units}
use Rattle.redo_timeline.specs.Lanes.{take_lane}
use Rattle.redo_timeline.specs.Parallelism.{count_at, most_of, runs_at}

abbrev span : ℕ → ℕ → Span
span began ended = record { began = began; position = 0; ended = ended; failed = false }

-- The place of a time is cut, not rounded: a third of the width, two thirds of it, and times at and after the edges.
thirds : map (units (record { began = 100; width = 3 })) (99 ∷ 100 ∷ 101 ∷ 102 ∷ 103 ∷ 104 ∷ []) ≡ 0 ∷ 0 ∷ 3333 ∷ 6666 ∷ 10000 ∷ 10000 ∷ []
thirds = refl

-- A window of a week: after a minute, an hour, a day, six days and a millisecond less than a week.
week : map (units (record { began = 1600000000000; width = 604800000 }))
    (1600000060000 ∷ 1600003600000 ∷ 1600086400000 ∷ 1600518400000 ∷ 1600604799999 ∷ []) ≡ 0 ∷ 59 ∷ 1428 ∷ 8571 ∷ 9999 ∷ []
week = refl

-- A thousand spans of a millisecond, one after another, in a window of a day. The next one joins them in one bar.
abbrev spans_from : ℕ → ℕ → List Span
spans_from began zero = []
spans_from began (suc count) = span began (suc began) ∷ spans_from (suc began) count

abbrev day : Window
day = record { began = 0; width = 86400000 }

one_bar : joins day (spans_from 0 1000) (span 1000 1001) ≡ true
one_bar = refl

count : (bar_of day 0 (replicate 1000 (span 0 1))).count ≡ 1000
count = refl

-- Such a bar begins and ends with its spans, and may have more than 2^16 of them.
many_spans :
    ((bar_of day 0 (spans_from 5000 1000)).began ≡ 5000) × ((bar_of day 0 (spans_from 5000 1000)).ended ≡ 6000)
    × ((bar_of day 0 (replicate 70000 (span 0 1))).count ≡ 70000)
many_spans = (refl, refl, refl)

-- A lane with a thousand spans is free after the last one.
full_lane : map (λ (lane : List Span). length lane) (take_lane 96 (span 1000 1001) (spans_from 0 1000 ∷ [])) ≡ 1001 ∷ []
full_lane = refl

-- A span runs from its beginning until just before its end. One without length never runs, but counts itself.
runs : map (λ time. runs_at time (span 5 7)) (4 ∷ 5 ∷ 6 ∷ 7 ∷ 8 ∷ []) ≡ false ∷ true ∷ true ∷ false ∷ false ∷ []
runs = refl

no_length : (runs_at 5 (span 5 5) ≡ false) × (count_at (span 5 5 ∷ span 5 7 ∷ span 3 5 ∷ []) (span 5 5) ≡ 2)
no_length = (refl, refl)

-- 300 spans run at once.
at_once : most_of (replicate 300 (span 5 7)) ≡ 300
at_once = refl

-- A bar of a span that failed begins with the span, even at the end of the window.
abbrev failed : Span
failed = record { began = 9999; position = 0; ended = 10000; failed = true }

last_bar : (bar_of (record { began = 0; width = 10000 }) 0 (failed ∷ [])).x ≡ 9999
last_bar = refl
