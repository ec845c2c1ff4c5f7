-- The statements of the laws.
use Rattle.std.specs.Prelude.{◌≡◌, ℕ, ◌+◌, ◌<◌, ◌≤◌, ◌⊎◌, true, false, List, [], ◌∷◌, length, map}
use Rattle.std.specs.List.{AllByRecursion, Contains, flat_map, range_with_len}
use Rattle.std.specs.List.Sorted.{IsPermutation, IsSorted}
use Rattle.redo_timeline.specs.declared.bar.Bar.{Bar}
use Rattle.redo_timeline.specs.declared.span.Span.{Span}
use Rattle.redo_timeline.specs.declared.span.Window.{Window}
use Rattle.redo_timeline.specs.Alone.{time_running}
use Rattle.redo_timeline.specs.Bars.{has_failed, width_of}
use Rattle.redo_timeline.specs.Order.{span_cmp}
use Rattle.redo_timeline.specs.Parallelism.{count_at, most_of}
use Rattle.redo_timeline.specs.Timeline.{Drawing}

-- The spans of all bars, lane by lane.
abbrev pub spans_of : List (List (List Span)) → List Span
spans_of lanes = flat_map (λ (bars : List (List Span)). flat_map (λ (bar : List Span). bar) bars) lanes

-- Something holds of each bar in each lane.
abbrev pub EachBar : (List Span → Type 0) → List (List (List Span)) → Type 0
EachBar P lanes = AllByRecursion (AllByRecursion P) lanes

-- A bar with a span that failed has no other span.
abbrev pub IsAloneIfFailed : List Span → Type 0
IsAloneIfFailed bar = has_failed bar ≡ true → length bar ≡ 1

-- A bar with several spans is narrower than 0.5 % by its times, and none of its spans failed.
abbrev pub IsSlimIfJoined : Window → List Span → Type 0
IsSlimIfJoined window bar = 1 < length bar → (width_of window bar < 50) × (has_failed bar ≡ false)

-- A bar is in a lower lane than the next one, or the next one begins when this one has ended or later. In the last lane that is allowed,
-- it may begin earlier.
abbrev pub IsBefore : ℕ → Bar → Bar → Type 0
IsBefore max_lanes bar next = (bar.lane < next.lane) ⊎ ((bar.lane ≡ next.lane) × (bar.lane + 1 < max_lanes → bar.ended ≤ next.began))

-- Each bar is before the next one.
abbrev pub AreInTurn : ℕ → List Bar → Type 0
AreInTurn max_lanes [] = Unit {0}
AreInTurn max_lanes (bar ∷ []) = Unit {0}
AreInTurn max_lanes (bar ∷ next ∷ bars) = IsBefore max_lanes bar next × AreInTurn max_lanes (next ∷ bars)

-- If any lane is allowed, no more lanes are taken than are allowed, and each bar is in one of them.
abbrev pub IsInLanes : ℕ → Drawing → Type 0
IsInLanes max_lanes drawing =
    0 < max_lanes → (drawing.lane_count ≤ max_lanes) × AllByRecursion (λ (bar : Bar). bar.lane < drawing.lane_count) drawing.bars

-- The second list has the spans of the first one, each at or after the one before.
abbrev pub AreOrdered : List Span → List Span → Type 0
AreOrdered spans ordered = IsPermutation spans ordered × IsSorted span_cmp ordered

-- The greatest number of spans that run at once run when one of the spans begins, if there are any.
abbrev pub IsReached : List Span → Type 0
IsReached spans = (spans ≡ []) ⊎ ((span : Span) × Contains spans span × (most_of spans ≡ count_at spans span))

-- How long exactly k of the spans run in a window, for each k from 0 to the number of spans.
abbrev pub times_running : Window → List Span → List ℕ
times_running window spans =
    map (λ (count : ℕ). time_running spans count window.began window.width) (range_with_len 0 (length spans + 1))

-- All spans begin and end in a window.
abbrev pub AreInWindow : Window → List Span → Type 0
AreInWindow window spans =
    AllByRecursion (λ (span : Span). (window.began ≤ span.began) × (span.ended ≤ window.began + window.width)) spans
