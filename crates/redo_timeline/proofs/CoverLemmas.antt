-- A bar begins with the first of its spans, and ends with the last.
use Rattle.std.proofs.Common.{◌≡◌, ℕ, ◌-◌, ◌<◌, ◌≤◌, max, leb, Bool, true, false, cond, List, [], ◌∷◌, ◌++◌, map, length, refl, sym, subst, arith, length-append}
use Rattle.std.specs.Prelude.{◌||◌}
use Rattle.std.specs.List.{AllByRecursion}
use Rattle.redo_timeline.specs.declared.span.Span.{Span}
use Rattle.redo_timeline.specs.declared.span.Window.{Window}
use Rattle.redo_timeline.specs.Bars.{bars_from, bars_in, began_of, joins}
use Rattle.redo_timeline.specs.Lanes.{ended_of, is_free, lanes_of, take_lane, take_lanes}
use Rattle.redo_timeline.specs.Laws.{EachBar}
use Rattle.redo_timeline.specs.Order.{in_order}
use Rattle.redo_timeline.specs.Timeline.{bars_of}
use Rattle.redo_timeline.proofs.LaneLemmas.{ended-last}
use Rattle.redo_timeline.proofs.NeedLemmas.{Ascending, all_above_zero, rising-ascending}
use Rattle.redo_timeline.proofs.OrderLemmas.{in_order-rising}

-- The time of a bar includes this span's time.
abbrev pub Includes : List Span → Span → Type 0
Includes bar span = (began_of bar ≤ span.began) × (span.ended ≤ ended_of bar)

-- ---- lanes

-- The spans begin one after the other, between these times.
abbrev Between : ℕ → ℕ → List Span → Type 0
Between low high [] = low ≤ high
Between low high (span ∷ rest) = (low ≤ span.began) × Between span.began high rest

between_last : (low high : ℕ) (lane : List Span) (span : Span) → Between low high lane → high ≤ span.began
    → Between low span.began (lane ++ span ∷ [])
between_last low high [] span between after = (omega (arith, between, after), omega arith)
between_last low high (first ∷ rest) span between after = (between.0, between_last first.began high rest span between.1 after)

between_later : (low high later : ℕ) (lane : List Span) → Between low high lane → high ≤ later → Between low later lane
between_later low high later [] between le = omega (arith, between, le)
between_later low high later (first ∷ rest) between le = (between.0, between_later first.began high later rest between.1 le)

abbrev AllBetween : ℕ → List (List Span) → Type 0
AllBetween high lanes = AllByRecursion (Between 0 high) lanes

all_later : (high later : ℕ) (lanes : List (List Span)) → AllBetween high lanes → high ≤ later → AllBetween later lanes
all_later high later [] between le = tt
all_later high later (lane ∷ lanes) between le = (between_later 0 high later lane between.0 le, all_later high later lanes between.1 le)

lane_taken : (max_lanes high : ℕ) (span : Span) (lanes : List (List Span)) → AllBetween high lanes → high ≤ span.began
    → AllBetween span.began (take_lane max_lanes span lanes)
lane_taken max_lanes high span [] between after = ((omega arith, omega arith), tt)
lane_taken max_lanes high span (lane ∷ lanes) between after =
    by (is_free span lane || leb max_lanes 1) (lane_taken (max_lanes - 1) high span lanes between.1 after)
  where
    by : (b : Bool) → AllBetween span.began (take_lane (max_lanes - 1) span lanes)
        → AllBetween span.began (cond b ((lane ++ span ∷ []) ∷ lanes) (lane ∷ take_lane (max_lanes - 1) span lanes))
    by true more = (between_last 0 high lane span between.0 after, all_later high span.began lanes between.1 after)
    by false more = (between_later 0 high span.began lane between.0 after, more)

-- Some time is not before the beginning of any span in a lane.
lanes_taken : (max_lanes high : ℕ) (spans : List Span) (lanes : List (List Span)) → AllBetween high lanes → Ascending high spans
    → (last : ℕ) × AllBetween last (take_lanes max_lanes lanes spans)
lanes_taken max_lanes high [] lanes between up = (high, between)
lanes_taken max_lanes high (span ∷ rest) lanes between up =
    lanes_taken max_lanes span.began rest (take_lane max_lanes span lanes) (lane_taken max_lanes high span lanes between up.0) up.1

-- ---- bars

abbrev AllIncluded : ℕ → ℕ → List Span → Type 0
AllIncluded begin end spans = AllByRecursion (λ (span : Span). (begin ≤ span.began) × (span.ended ≤ end)) spans

abbrev pub IsIncluded : List Span → Type 0
IsIncluded bar = AllByRecursion (Includes bar) bar

included_last : (begin end : ℕ) (spans : List Span) (span : Span) → AllIncluded begin end spans → begin ≤ span.began
    → AllIncluded begin (max end span.ended) (spans ++ span ∷ [])
included_last begin end [] span all after = ((after, omega arith), tt)
included_last begin end (first ∷ rest) span all after =
    ((all.0.0, let ends = all.0.1 in omega (arith, ends)), included_last begin end rest span all.1 after)

began_kept : (bar : List Span) (span : Span) → 0 < length bar → began_of (bar ++ span ∷ []) ≡ began_of bar
began_kept [] span some = absurd (omega (arith, some))
began_kept (first ∷ rest) span some = refl

joined_included : (bar : List Span) (span : Span) → 0 < length bar → IsIncluded bar → began_of bar ≤ span.began
    → IsIncluded (bar ++ span ∷ [])
joined_included bar span some included after =
    subst (λ (n : ℕ). AllIncluded n (ended_of (bar ++ span ∷ [])) (bar ++ span ∷ [])) (sym (began_kept bar span some))
    (subst (λ (n : ℕ). AllIncluded (began_of bar) n (bar ++ span ∷ [])) (sym (ended-last bar span))
    (included_last (began_of bar) (ended_of bar) bar span included after))

one_included : (span : Span) → IsIncluded (span ∷ [])
one_included span = ((omega arith, omega arith), tt)

module _ (window : Window) where
  bars_included : (bar rest : List Span) (low high : ℕ) → 0 < length bar → IsIncluded bar → began_of bar ≤ low → Between low high rest
      → AllByRecursion IsIncluded (bars_from window bar rest)
  bars_included bar [] low high some included before between = (included, tt)
  bars_included bar (span ∷ rest) low high some included before between =
      let after : began_of bar ≤ span.began = let next = between.0 in omega (arith, before, next) in
      let longer : 0 < length (bar ++ span ∷ []) = let count = length-append bar (span ∷ []) in omega (arith, count) in
      let same : began_of (bar ++ span ∷ []) ≤ span.began = let kept = began_kept bar span some in omega (arith, kept, after) in
      by (joins window bar span) (bars_included (bar ++ span ∷ []) rest span.began high longer
      (joined_included bar span some included after) same between.1)
      (bars_included (span ∷ []) rest span.began high (omega arith) (one_included span) (omega arith) between.1)
    where
      by : (b : Bool) → AllByRecursion IsIncluded (bars_from window (bar ++ span ∷ []) rest)
          → AllByRecursion IsIncluded (bars_from window (span ∷ []) rest)
          → AllByRecursion IsIncluded (cond b (bars_from window (bar ++ span ∷ []) rest) (bar ∷ bars_from window (span ∷ []) rest))
      by true more next = more
      by false more next = (included, next)

  lane_included : (high : ℕ) (lane : List Span) → Between 0 high lane → AllByRecursion IsIncluded (bars_in window lane)
  lane_included high [] between = tt
  lane_included high (span ∷ rest) between =
      bars_included (span ∷ []) rest span.began high (omega arith) (one_included span) (omega arith) between.1

  lanes_included : (high : ℕ) (lanes : List (List Span)) → AllBetween high lanes → EachBar IsIncluded (map (bars_in window) lanes)
  lanes_included high [] between = tt
  lanes_included high (lane ∷ lanes) between = (lane_included high lane between.0, lanes_included high lanes between.1)

  -- The time of each bar includes its spans' times.
  pub bars_include : (max_lanes : ℕ) (spans : List Span) → EachBar IsIncluded (bars_of window max_lanes spans)
  bars_include max_lanes spans =
      let taken = lanes_taken max_lanes 0 (in_order spans) [] none
      (rising-ascending 0 (in_order spans) (all_above_zero (in_order spans)) (in_order-rising spans)) in
      lanes_included taken.0 (lanes_of max_lanes spans) taken.1
    where
      none : AllBetween 0 []
      none = tt
