-- Rows of how long spans run alone. The values are worked out by hand.
use Rattle.std.proofs.Common.{◌≡◌, ℕ, ◌==◌, leb, true, false, List, [], ◌∷◌, map, replicate, refl, arith}
use Rattle.redo_timeline.specs.declared.span.Span.{Span}
use Rattle.redo_timeline.specs.declared.span.Window.{Window}
use Rattle.redo_timeline.specs.Alone.{alone, running_at, time_running, time_with, times_alone}
use Rattle.redo_timeline.specs.Laws.{AreInWindow, times_running}

abbrev span : ℕ → ℕ → Span
span began ended = record { began = began; position = 0; ended = ended; failed = false }

abbrev window : ℕ → ℕ → Window
window began width = record { began = began; width = width }

-- ---- times

-- A span that runs while another one does.
abbrev nested : List Span
nested = span 0 10 ∷ span 5 8 ∷ []

running : map (running_at nested) (0 ∷ 4 ∷ 5 ∷ 7 ∷ 8 ∷ 9 ∷ 10 ∷ []) ≡ 1 ∷ 1 ∷ 2 ∷ 2 ∷ 1 ∷ 1 ∷ 0 ∷ []
running = refl

-- The first millisecond of a window counts, and the one after the last doesn't.
counted :
    (time_with (λ time. leb 5 time) 3 4 ≡ 2) × (time_with (λ time. time == 3) 3 4 ≡ 1) × (time_with (λ time. time == 6) 3 4 ≡ 1)
    × (time_with (λ time. time == 7) 3 4 ≡ 0) × (time_with (λ time. time == 2) 3 4 ≡ 0) × (time_with (λ time. true) 3 0 ≡ 0)
counted = (refl, refl, refl, refl, refl, refl)

-- No span, one and two at once in the first 12 milliseconds; then in two milliseconds, of which both run in the second.
run :
    (time_running nested 0 0 12 ≡ 2) × (time_running nested 1 0 12 ≡ 7) × (time_running nested 2 0 12 ≡ 3)
    × (time_running nested 3 0 12 ≡ 0) × (time_running nested 1 4 2 ≡ 1) × (time_running nested 2 4 2 ≡ 1)
run = (refl, refl, refl, refl, refl, refl)

-- ---- spans

one : (times_alone [] ≡ []) × (times_alone (span 5 9 ∷ []) ≡ 4 ∷ []) × (alone (span 5 9 ∷ []) (span 5 9) ≡ 4)
one = (refl, refl, refl)

-- Spans that touch, that have a gap between them, and that overlap for a millisecond, in either order.
two :
    (times_alone (span 0 10 ∷ span 10 20 ∷ []) ≡ 10 ∷ 10 ∷ []) × (times_alone (span 0 3 ∷ span 10 14 ∷ []) ≡ 3 ∷ 4 ∷ [])
    × (times_alone (span 0 10 ∷ span 9 20 ∷ []) ≡ 9 ∷ 10 ∷ []) × (times_alone (span 9 20 ∷ span 0 10 ∷ []) ≡ 10 ∷ 9 ∷ [])
two = (refl, refl, refl, refl)

-- A span within another one: in the middle, from its beginning, and until its end. Then spans that are equal.
within :
    (times_alone nested ≡ 7 ∷ 0 ∷ []) × (times_alone (span 0 10 ∷ span 0 2 ∷ []) ≡ 8 ∷ 0 ∷ [])
    × (times_alone (span 0 10 ∷ span 7 10 ∷ []) ≡ 7 ∷ 0 ∷ []) × (times_alone (span 2 7 ∷ span 2 7 ∷ []) ≡ 0 ∷ 0 ∷ [])
within = (refl, refl, refl, refl)

-- Spans without length, and spans that ended before they began, don't run.
not_running :
    (times_alone (span 5 5 ∷ []) ≡ 0 ∷ []) × (times_alone (span 9 4 ∷ []) ≡ 0 ∷ [])
    × (times_alone (span 0 10 ∷ span 5 5 ∷ []) ≡ 10 ∷ 0 ∷ []) × (times_alone (span 0 10 ∷ span 9 4 ∷ []) ≡ 10 ∷ 0 ∷ [])
    × (times_alone (span 9 4 ∷ span 0 10 ∷ []) ≡ 0 ∷ 10 ∷ [])
not_running = (refl, refl, refl, refl, refl)

-- Three at once, a chain, and two that follow each other while a third one runs.
three :
    (times_alone (span 0 10 ∷ span 2 6 ∷ span 4 8 ∷ []) ≡ 4 ∷ 0 ∷ 0 ∷ [])
    × (times_alone (span 0 4 ∷ span 3 8 ∷ span 7 9 ∷ []) ≡ 3 ∷ 3 ∷ 1 ∷ [])
    × (times_alone (span 0 10 ∷ span 2 5 ∷ span 5 8 ∷ []) ≡ 4 ∷ 0 ∷ 0 ∷ [])
three = (refl, refl, refl)

-- A time of the year 2020, and a span of some seconds.
large : (times_alone (span 1600000000000 1600000000003 ∷ []) ≡ 3 ∷ []) × (times_alone (span 0 5000 ∷ span 4000 4001 ∷ []) ≡ 4999 ∷ 0 ∷ [])
large = (refl, refl)

-- 300 spans run at once.
many : (running_at (replicate 300 (span 5 7)) 6 ≡ 300) × (time_running (replicate 300 (span 5 7)) 300 0 10 ≡ 2)
many = (refl, refl)

-- ---- windows

all_numbers : (times_running (window 0 12) nested ≡ 2 ∷ 7 ∷ 3 ∷ []) × (times_running (window 4 3) [] ≡ 3 ∷ [])
all_numbers = (refl, refl)

in_window : AreInWindow (window 0 10) nested × AreInWindow (window 5 4) (span 5 9 ∷ []) × AreInWindow (window 5 0) []
in_window = (
  ((omega arith, omega arith), ((omega arith, omega arith), tt)),
  ((omega arith, omega arith), tt),
  tt,
)

-- A span begins before the window, and one ends after it. Then only the first span is in it.
not_in_window :
    ¬ AreInWindow (window 6 9) (span 5 9 ∷ []) × ¬ AreInWindow (window 5 3) (span 5 9 ∷ [])
    × ¬ AreInWindow (window 0 8) (span 5 8 ∷ span 0 9 ∷ [])
not_in_window = (
  λ all. let from = all.0.0 in omega (arith, from),
  λ all. let until = all.0.1 in omega (arith, until),
  λ all. let until = all.1.0.1 in omega (arith, until),
)
