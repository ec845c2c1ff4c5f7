-- Rows of timelines, and of the lanes and bars in them. The values are worked out by hand.
use Rattle.std.proofs.Common.{◌≡◌, ℕ, Bool, true, false, [], ◌∷◌, refl, arith, inl, inr, lit<}
use Rattle.std.proofs.lemmas.List.Sorted.{length_permutation}
use Rattle.redo_timeline.specs.declared.bar.Bar.{Bar}
use Rattle.redo_timeline.specs.declared.span.Span.{Span}
use Rattle.redo_timeline.specs.declared.span.Window.{Window}
use Rattle.redo_timeline.specs.Bars.{IsValidWindow, bar_of, bars_in, is_narrow, units}
use Rattle.redo_timeline.specs.Lanes.{ended_of, lanes_of}
use Rattle.redo_timeline.specs.Laws.{AreInTurn, AreOrdered, EachBar, IsAloneIfFailed, IsInLanes, IsSlimIfJoined, spans_of}
use Rattle.redo_timeline.specs.Order.{in_order}
use Rattle.redo_timeline.specs.Parallelism.{most_of, runs_at}
use Rattle.redo_timeline.specs.Timeline.{timeline_of}

abbrev span : ℕ → ℕ → ℕ → Span
span position began ended = record { began = began; position = position; ended = ended; failed = false }

abbrev failed : ℕ → ℕ → ℕ → Span
failed position began ended = record { began = began; position = position; ended = ended; failed = true }

-- A window in which a unit is a millisecond.
abbrev window : Window
window = record { began = 0; width = 10000 }

-- ---- order

orders :
    (in_order (span 0 5 9 ∷ span 1 3 4 ∷ span 2 4 4 ∷ []) ≡ span 1 3 4 ∷ span 2 4 4 ∷ span 0 5 9 ∷ [])
    × (in_order (span 7 5 6 ∷ span 2 5 9 ∷ span 4 5 5 ∷ []) ≡ span 2 5 9 ∷ span 4 5 5 ∷ span 7 5 6 ∷ [])
    × (in_order (span 2 5 9 ∷ span 2 5 6 ∷ []) ≡ span 2 5 6 ∷ span 2 5 9 ∷ [])
    × (in_order (failed 2 5 6 ∷ span 2 5 6 ∷ []) ≡ span 2 5 6 ∷ failed 2 5 6 ∷ [])
    × (in_order (span 1 5 6 ∷ span 1 5 6 ∷ []) ≡ span 1 5 6 ∷ span 1 5 6 ∷ []) × (in_order [] ≡ [])
orders = (refl, refl, refl, refl, refl, refl)

-- ---- lanes

-- Nothing, one span, spans that touch, and spans that overlap.
few_spans :
    (lanes_of 4 [] ≡ []) × (lanes_of 4 (span 0 5 9 ∷ []) ≡ (span 0 5 9 ∷ []) ∷ [])
    × (lanes_of 4 (span 0 0 10 ∷ span 1 10 20 ∷ []) ≡ (span 0 0 10 ∷ span 1 10 20 ∷ []) ∷ [])
    × (lanes_of 4 (span 0 0 10 ∷ span 1 9 20 ∷ []) ≡ (span 0 0 10 ∷ []) ∷ (span 1 9 20 ∷ []) ∷ [])
    × (lanes_of 4 (span 0 9 20 ∷ span 1 0 10 ∷ []) ≡ (span 1 0 10 ∷ []) ∷ (span 0 9 20 ∷ []) ∷ [])
few_spans = (refl, refl, refl, refl, refl)

-- The third span takes the lane of the first one again, and no lane is free for the fourth. Then the lowest of two free lanes is taken.
reused_lanes :
    (lanes_of 4 (span 0 0 10 ∷ span 1 5 20 ∷ span 2 10 12 ∷ span 3 11 30 ∷ [])
    ≡ (span 0 0 10 ∷ span 2 10 12 ∷ []) ∷ (span 1 5 20 ∷ []) ∷ (span 3 11 30 ∷ []) ∷ [])
    × (lanes_of 4 (span 0 0 10 ∷ span 1 5 9 ∷ span 2 12 13 ∷ []) ≡ (span 0 0 10 ∷ span 2 12 13 ∷ []) ∷ (span 1 5 9 ∷ []) ∷ [])
    × (lanes_of 4 (span 0 0 10 ∷ span 1 5 8 ∷ span 2 9 13 ∷ []) ≡ (span 0 0 10 ∷ []) ∷ (span 1 5 8 ∷ span 2 9 13 ∷ []) ∷ [])
reused_lanes = (refl, refl, refl)

-- Two lanes are allowed; then one; 0 allows one, too.
full_lanes :
    (lanes_of 2 (span 0 0 10 ∷ span 1 1 10 ∷ span 2 2 10 ∷ span 3 3 4 ∷ [])
    ≡ (span 0 0 10 ∷ []) ∷ (span 1 1 10 ∷ span 2 2 10 ∷ span 3 3 4 ∷ []) ∷ [])
    × (lanes_of 2 (span 0 0 4 ∷ span 1 1 10 ∷ span 2 2 10 ∷ span 3 5 6 ∷ [])
    ≡ (span 0 0 4 ∷ span 3 5 6 ∷ []) ∷ (span 1 1 10 ∷ span 2 2 10 ∷ []) ∷ [])
    × (lanes_of 1 (span 0 0 10 ∷ span 1 1 2 ∷ []) ≡ (span 0 0 10 ∷ span 1 1 2 ∷ []) ∷ [])
    × (lanes_of 0 (span 0 0 10 ∷ span 1 1 2 ∷ []) ≡ (span 0 0 10 ∷ span 1 1 2 ∷ []) ∷ [])
full_lanes = (refl, refl, refl, refl)

-- Spans without length follow each other at one time.
spans_without_length :
    (lanes_of 4 (span 0 5 5 ∷ span 1 5 5 ∷ span 2 5 9 ∷ []) ≡ (span 0 5 5 ∷ span 1 5 5 ∷ span 2 5 9 ∷ []) ∷ [])
    × (lanes_of 4 (span 0 5 9 ∷ span 1 5 5 ∷ []) ≡ (span 0 5 9 ∷ []) ∷ (span 1 5 5 ∷ []) ∷ [])
spans_without_length = (refl, refl)

-- ---- bars

windows :
    IsValidWindow (record { began = 7; width = 1 }) × IsValidWindow (record { began = 7; width = 17592186044415 })
    × ¬ IsValidWindow (record { began = 7; width = 0 }) × ¬ IsValidWindow (record { began = 7; width = 17592186044416 })
windows = ((lit< tt, lit< tt), (lit< tt, lit< tt), λ valid. omega (arith, valid.0), λ valid. omega (arith, valid.1))

-- Units are rounded down. Times outside the window are at its edges.
positions :
    (units (record { began = 1000; width = 2000 }) 1500 ≡ 2500) × (units (record { began = 1000; width = 2000 }) 999 ≡ 0)
    × (units (record { began = 1000; width = 2000 }) 3000 ≡ 10000)
    × (units (record { began = 1000; width = 2000 }) 3001 ≡ 10000) × (units (record { began = 7; width = 3 }) 8 ≡ 3333)
    × (units (record { began = 7; width = 3 }) 9 ≡ 6666) × (units (record { began = 7; width = 1 }) 8 ≡ 10000)
positions = (refl, refl, refl, refl, refl, refl, refl)

narrow_spans : (is_narrow window (span 0 30 49) ≡ true) × (is_narrow window (span 0 30 50) ≡ false)
    × (is_narrow window (failed 0 30 49) ≡ false) × (is_narrow window (span 0 30 30) ≡ true)
narrow_spans = (refl, refl, refl, refl)

-- A span joins the bar before it if 9 units are between them, but not if there are 10.
gaps :
    (bars_in window (span 0 0 10 ∷ span 1 19 25 ∷ []) ≡ (span 0 0 10 ∷ span 1 19 25 ∷ []) ∷ [])
    × (bars_in window (span 0 0 10 ∷ span 1 20 25 ∷ []) ≡ (span 0 0 10 ∷ []) ∷ (span 1 20 25 ∷ []) ∷ [])
    × (bars_in window [] ≡ []) × (bars_in window (span 0 7 7 ∷ []) ≡ (span 0 7 7 ∷ []) ∷ [])
gaps = (refl, refl, refl, refl)

-- A bar of several spans has 49 units at most. The next bar begins with the span that is one unit too long.
joined_widths :
    (bars_in window (span 0 0 19 ∷ span 1 25 40 ∷ span 2 45 49 ∷ []) ≡ (span 0 0 19 ∷ span 1 25 40 ∷ span 2 45 49 ∷ []) ∷ [])
    × (bars_in window (span 0 0 19 ∷ span 1 25 40 ∷ span 2 45 50 ∷ span 3 51 52 ∷ [])
    ≡ (span 0 0 19 ∷ span 1 25 40 ∷ []) ∷ (span 2 45 50 ∷ span 3 51 52 ∷ []) ∷ [])
joined_widths = (refl, refl)

-- A span that isn't narrow joins no bar, and none joins it. Neither does one that failed.
apart :
    (bars_in window (span 0 0 10 ∷ span 1 12 40 ∷ span 2 41 45 ∷ []) ≡ (span 0 0 10 ∷ []) ∷ (span 1 12 40 ∷ []) ∷ (span 2 41 45 ∷ []) ∷ [])
    × (bars_in window (span 0 0 10 ∷ failed 1 12 14 ∷ span 2 15 20 ∷ [])
    ≡ (span 0 0 10 ∷ []) ∷ (failed 1 12 14 ∷ []) ∷ (span 2 15 20 ∷ []) ∷ [])
    × (bars_in window (failed 0 5 5 ∷ failed 1 5 5 ∷ []) ≡ (failed 0 5 5 ∷ []) ∷ (failed 1 5 5 ∷ []) ∷ [])
apart = (refl, refl, refl)

-- A bar ends when the last of its spans ends, which may not be its last span.
last_ends :
    (bars_in window (span 0 0 18 ∷ span 1 1 3 ∷ span 2 20 22 ∷ []) ≡ (span 0 0 18 ∷ span 1 1 3 ∷ span 2 20 22 ∷ []) ∷ [])
    × (ended_of (span 0 0 18 ∷ span 1 1 3 ∷ []) ≡ 18) × (ended_of [] ≡ 0)
last_ends = (refl, refl, refl)

-- The bar of one span, of a failed one, and of several.
drawn :
    (bar_of window 3 (span 8 5 8 ∷ []) ≡ record {
      lane = 3;
      x = 5;
      width = 10;
      position = 8;
      count = 1;
      began = 5;
      ended = 8;
      failed = false;
    })
    × (bar_of window 0 (span 8 5 16 ∷ [])
    ≡ record { lane = 0; x = 5; width = 11; position = 8; count = 1; began = 5; ended = 16; failed = false })
    × (bar_of window 0 (failed 8 5 5 ∷ [])
    ≡ record { lane = 0; x = 5; width = 30; position = 8; count = 1; began = 5; ended = 5; failed = true })
    × (bar_of window 0 (failed 8 5 36 ∷ [])
    ≡ record { lane = 0; x = 5; width = 31; position = 8; count = 1; began = 5; ended = 36; failed = true })
    × (bar_of window 1 (span 8 0 18 ∷ span 4 1 3 ∷ [])
    ≡ record { lane = 1; x = 0; width = 18; position = 8; count = 2; began = 0; ended = 18; failed = false })
drawn = (refl, refl, refl, refl, refl)

-- ---- timelines

abbrev bar : ℕ → ℕ → ℕ → ℕ → ℕ → ℕ → ℕ → Bool → Bar
bar lane x width position count began ended failed =
    record { lane = lane; x = x; width = width; position = position; count = count; began = began; ended = ended; failed = failed }

-- Two narrow spans, and one that failed while the others ran. A unit is 2 milliseconds, and the window begins at 1000.
timelines :
    (timeline_of (record { began = 1000; width = 20000 }) 2
    (span 0 5000 5020 ∷ failed 1 5010 9010 ∷ span 2 5024 5030 ∷ span 3 1000 5000 ∷ [])
    ≡ record {
      bars = bar 0 0 2000 3 1 1000 5000 false ∷ bar 0 2000 15 0 2 5000 5030 false ∷ bar 1 2005 2000 1 1 5010 9010 true ∷ [];
      lane_count = 2;
    })
    × (timeline_of window 2 [] ≡ record { bars = []; lane_count = 0 })
timelines = (refl, refl)

-- Two lanes are allowed; then none, which allows one.
limited_timelines :
    (timeline_of window 2 (span 0 0 100 ∷ span 1 10 100 ∷ span 2 20 100 ∷ span 3 30 35 ∷ []) ≡ record {
      bars = bar 0 0 100 0 1 0 100 false ∷ bar 1 10 90 1 1 10 100 false ∷ bar 1 20 80 2 1 20 100 false ∷ bar 1 30 10 3 1 30 35 false ∷ [];
      lane_count = 2;
    })
    × (timeline_of window 0 (span 0 0 100 ∷ span 1 10 100 ∷ [])
    ≡ record { bars = bar 0 0 100 0 1 0 100 false ∷ bar 0 10 90 1 1 10 100 false ∷ []; lane_count = 1 })
limited_timelines = (refl, refl)

-- No span, one that ended before it began, and one that is longer than the window.
odd_timelines :
    (timeline_of window 4 [] ≡ record { bars = []; lane_count = 0 })
    × (timeline_of window 4 (span 0 10 5 ∷ []) ≡ record { bars = bar 0 10 10 0 1 10 5 false ∷ []; lane_count = 1 })
    × (timeline_of (record { began = 1000; width = 2000 }) 4 (span 0 0 5000 ∷ [])
    ≡ record { bars = bar 0 0 10000 0 1 0 5000 false ∷ []; lane_count = 1 })
odd_timelines = (refl, refl, refl)

all_spans : spans_of (((span 0 0 1 ∷ span 1 1 2 ∷ []) ∷ (span 2 3 4 ∷ []) ∷ []) ∷ [] ∷ ((span 3 0 5 ∷ []) ∷ []) ∷ [])
    ≡ span 0 0 1 ∷ span 1 1 2 ∷ span 2 3 4 ∷ span 3 0 5 ∷ []
all_spans = refl

-- ---- timelines that the laws reject

-- Two bars overlap in lane 0, though lane 1 is allowed too. Then a higher lane comes first.
rejected_turns :
    ¬ AreInTurn 2 (bar 0 0 30 0 1 0 30 false ∷ bar 0 20 70 1 1 20 90 false ∷ [])
    × ¬ AreInTurn 2 (bar 0 0 30 0 1 0 30 false ∷ bar 0 30 30 1 1 30 60 false ∷ bar 0 50 30 2 1 50 80 false ∷ [])
    × ¬ AreInTurn 1 (bar 1 0 30 0 1 0 30 false ∷ bar 0 50 30 1 1 50 80 false ∷ [])
rejected_turns = (
  λ turn. elim turn.0 [ inl less ↦ omega (arith, less) | inr same ↦ let apart = same.1 (omega arith) in omega (arith, apart) ],
  λ turn. elim turn.1.0 [ inl less ↦ omega (arith, less) | inr same ↦ let apart = same.1 (omega arith) in omega (arith, apart) ],
  λ turn. elim turn.0 [ inl less ↦ omega (arith, less) | inr same ↦ let lane = same.0 in omega (arith, lane) ],
)

rejected_bars :
    ¬ IsAloneIfFailed (failed 0 0 1 ∷ span 1 1 2 ∷ []) × ¬ IsAloneIfFailed (span 1 1 2 ∷ failed 0 2 3 ∷ [])
    × ¬ IsSlimIfJoined window (span 0 0 19 ∷ span 1 25 50 ∷ [])
    × ¬ IsSlimIfJoined window (span 0 0 1 ∷ failed 1 1 2 ∷ [])
    × ¬ EachBar IsAloneIfFailed ([] ∷ ((span 0 0 1 ∷ []) ∷ (failed 1 0 1 ∷ span 2 1 2 ∷ []) ∷ []) ∷ [])
rejected_bars = (
  λ alone. let one = alone refl in omega (arith, one),
  λ alone. let one = alone refl in omega (arith, one),
  λ slim. let less = (slim (omega arith)).0 in omega (arith, less),
  λ slim. let none : true ≡ false = (slim (omega arith)).1 in absurd (cc),
  λ each. let one = each.1.0.1.0 refl in omega (arith, one),
)

rejected_lanes : ¬ IsInLanes 1 (record { bars = []; lane_count = 2 })
    × ¬ IsInLanes 2 (record { bars = bar 0 0 30 0 1 0 30 false ∷ bar 1 0 30 0 1 0 30 false ∷ []; lane_count = 1 })
rejected_lanes = (
  λ lanes. let few = (lanes (omega arith)).0 in omega (arith, few),
  λ lanes. let below = (lanes (omega arith)).1.1.0 in
      omega (arith, below),
)

-- A span is lost, or is there twice. Then a later span comes first.
rejected_orders :
    ¬ AreOrdered (span 0 5 9 ∷ span 1 3 4 ∷ []) (span 1 3 4 ∷ []) × ¬ AreOrdered (span 1 3 4 ∷ []) (span 1 3 4 ∷ span 1 3 4 ∷ [])
    × ¬ AreOrdered (span 0 5 9 ∷ span 1 3 4 ∷ []) (span 0 5 9 ∷ span 1 3 4 ∷ [])
rejected_orders = (
  λ ordered. let count : 1 ≡ 2 = length_permutation (span 0 5 9 ∷ span 1 3 4 ∷ []) (span 1 3 4 ∷ []) ordered.0 in omega (arith, count),
  λ ordered. let count : 2 ≡ 1 = length_permutation (span 1 3 4 ∷ []) (span 1 3 4 ∷ span 1 3 4 ∷ []) ordered.0 in omega (arith, count),
  λ ordered. let sorted : true ≡ false = ordered.1 0 (span 0 0 0) (omega arith) (omega arith) in absurd (cc),
)

-- ---- parallelism

running : (runs_at 5 (span 0 5 9) ≡ true) × (runs_at 4 (span 0 5 9) ≡ false) × (runs_at 8 (span 0 5 9) ≡ true)
    × (runs_at 9 (span 0 5 9) ≡ false) × (runs_at 5 (span 0 5 5) ≡ false)
running = (refl, refl, refl, refl, refl)

-- Spans that touch don't run at once. A span without length counts itself, and others that run.
most :
    (most_of [] ≡ 0) × (most_of (span 0 5 9 ∷ []) ≡ 1) × (most_of (span 0 0 10 ∷ span 1 10 20 ∷ []) ≡ 1)
    × (most_of (span 0 0 10 ∷ span 1 9 20 ∷ []) ≡ 2) × (most_of (span 0 5 5 ∷ []) ≡ 1)
    × (most_of (span 0 5 5 ∷ span 1 5 5 ∷ []) ≡ 1) × (most_of (span 0 0 10 ∷ span 1 5 5 ∷ []) ≡ 2)
    × (most_of (span 0 5 6 ∷ failed 1 3 7 ∷ span 2 0 10 ∷ span 3 7 9 ∷ []) ≡ 3)
    × (most_of (span 0 10 5 ∷ span 1 4 11 ∷ []) ≡ 2)
most = (refl, refl, refl, refl, refl, refl, refl, refl, refl)
