-- Properties of all timelines.
use Rattle.std.proofs.Common.{◌≡◌, ℕ, ◌+◌, ◌-◌, ◌<◌, ◌≤◌, ◌⊎◌, inl, inr, max, leb, ltb, Bool, true, false, not, cond, List, [], ◌∷◌, ◌++◌, length, map, refl, sym, ap, ◌∙◌, subst, arith, append_assoc, length-append}
use Rattle.std.specs.Prelude.{◌&&◌, ◌||◌}
use Rattle.std.specs.List.{AllByRecursion, flat_map, list_all}
use Rattle.std.specs.List.Sorted.{IsPermutation}
use Rattle.std.proofs.lemmas.Bool.{leb-false, leb-true, ltb-true}
use Rattle.std.proofs.lemmas.List.{append-nil}
use Rattle.std.proofs.lemmas.List.Sorted.{IsPermutation-append_left, IsPermutation-append_right, IsPermutation-middle, IsPermutation-refl, IsPermutation-sym, IsPermutation-trans}
use Rattle.redo_timeline.specs.declared.bar.Bar.{Bar}
use Rattle.redo_timeline.specs.declared.span.Span.{Span}
use Rattle.redo_timeline.specs.declared.span.Window.{Window}
use Rattle.redo_timeline.specs.Bars.{bar_of, bars_from, bars_in, began_of, has_failed, is_narrow, joins, units}
use Rattle.redo_timeline.specs.Lanes.{ended_of, is_free, lanes_of, take_lane, take_lanes}
use Rattle.redo_timeline.specs.Laws.{AreInTurn, EachBar, IsAloneIfFailed, IsInLanes, IsSlimIfJoined, spans_of}
use Rattle.redo_timeline.specs.Order.{in_order}
use Rattle.redo_timeline.specs.Timeline.{bars_of, drawn_bars, timeline_of}
use Rattle.redo_timeline.proofs.BarLemmas.{and_left, and_right, all-last, joins_narrow, narrow_not_failed}
use Rattle.redo_timeline.proofs.LaneLemmas.{ended-last}
use Rattle.redo_timeline.proofs.OrderLemmas.{in_order-permutation}

-- ---- each span is drawn once

abbrev pub joined : List (List Span) → List Span
joined lists = flat_map (λ (spans : List Span). spans) lists

module _ (window : Window) where
  joined-bars_from : (bar rest : List Span) → joined (bars_from window bar rest) ≡ bar ++ rest
  joined-bars_from bar [] = refl
  joined-bars_from bar (span ∷ rest) =
      by (joins window bar span) (joined-bars_from (bar ++ span ∷ []) rest) (joined-bars_from (span ∷ []) rest)
    where
      by : (b : Bool) → joined (bars_from window (bar ++ span ∷ []) rest) ≡ (bar ++ span ∷ []) ++ rest
          → joined (bars_from window (span ∷ []) rest) ≡ (span ∷ []) ++ rest
          → joined (cond b (bars_from window (bar ++ span ∷ []) rest) (bar ∷ bars_from window (span ∷ []) rest)) ≡ bar ++ span ∷ rest
      by true more next = more ∙ append_assoc bar (span ∷ []) rest
      by false more next = ap (λ (spans : List Span). bar ++ spans) next

  joined-bars_in : (spans : List Span) → joined (bars_in window spans) ≡ spans
  joined-bars_in [] = refl
  joined-bars_in (span ∷ rest) = joined-bars_from (span ∷ []) rest

  spans-bars_in : (lanes : List (List Span)) → spans_of (map (bars_in window) lanes) ≡ joined lanes
  spans-bars_in [] = refl
  spans-bars_in (lane ∷ lanes) = ap (λ (spans : List Span). spans ++ spans_of (map (bars_in window) lanes)) (joined-bars_in lane)
      ∙ ap (λ (spans : List Span). lane ++ spans) (spans-bars_in lanes)

pub take_lane-permutation : (max_lanes : ℕ) (span : Span) (lanes : List (List Span))
    → IsPermutation (span ∷ joined lanes) (joined (take_lane max_lanes span lanes))
take_lane-permutation max_lanes span [] = IsPermutation-refl (span ∷ [])
take_lane-permutation max_lanes span (lane ∷ lanes) =
    by (is_free span lane || leb max_lanes 1) (take_lane-permutation (max_lanes - 1) span lanes)
  where
    inside : IsPermutation (span ∷ (lane ++ joined lanes)) (lane ++ span ∷ joined lanes)
    inside = IsPermutation-sym _ _ (IsPermutation-middle lane span (joined lanes))

    by : (b : Bool) → IsPermutation (span ∷ joined lanes) (joined (take_lane (max_lanes - 1) span lanes))
        → IsPermutation (span ∷ (lane ++ joined lanes))
        (joined (cond b ((lane ++ span ∷ []) ∷ lanes) (lane ∷ take_lane (max_lanes - 1) span lanes)))
    by true more = subst (λ (spans : List Span). IsPermutation (span ∷ (lane ++ joined lanes)) spans)
        (sym (append_assoc lane (span ∷ []) (joined lanes))) inside
    by false more = IsPermutation-trans _ _ _ inside (IsPermutation-append_right lane _ _ more)

take_lanes-permutation : (max_lanes : ℕ) (lanes : List (List Span)) (spans : List Span)
    → IsPermutation (joined lanes ++ spans) (joined (take_lanes max_lanes lanes spans))
take_lanes-permutation max_lanes lanes [] =
    subst (λ (spans : List Span). IsPermutation spans (joined lanes)) (sym (append-nil (joined lanes))) (IsPermutation-refl (joined lanes))
take_lanes-permutation max_lanes lanes (span ∷ rest) =
    IsPermutation-trans _ _ _ (IsPermutation-middle (joined lanes) span rest)
    (IsPermutation-trans _ _ _ (IsPermutation-append_left rest _ _ (take_lane-permutation max_lanes span lanes))
    (take_lanes-permutation max_lanes (take_lane max_lanes span lanes) rest))

pub lanes-permutation : (max_lanes : ℕ) (spans : List Span) → IsPermutation spans (joined (lanes_of max_lanes spans))
lanes-permutation max_lanes spans = IsPermutation-trans _ _ _ (in_order-permutation spans)
    (take_lanes-permutation max_lanes [] (in_order spans))

pub drawn_once : (window : Window) (max_lanes : ℕ) (spans : List Span) → IsPermutation spans (spans_of (bars_of window max_lanes spans))
drawn_once window max_lanes spans = subst (λ (all : List Span). IsPermutation spans all)
    (sym (spans-bars_in window (lanes_of max_lanes spans))) (lanes-permutation max_lanes spans)

-- ---- bars of one span, and of several

narrow_none_failed : (window : Window) (bar : List Span) → list_all (is_narrow window) bar ≡ true → has_failed bar ≡ false
narrow_none_failed window [] all = refl
narrow_none_failed window (span ∷ rest) all =
    ap (λ (b : Bool). b || has_failed rest) (narrow_not_failed window span (and_left _ _ all))
    ∙ narrow_none_failed window rest (and_right (is_narrow window span) _ all)

-- Properties of each bar.
record Proper (window : Window) (bar : List Span) : Type 0 where
  some : 0 < length bar
  alone : IsAloneIfFailed bar
  slim : list_all (is_narrow window) bar ≡ true → units window (ended_of bar) - units window (began_of bar) < 50
  several : 1 < length bar → list_all (is_narrow window) bar ≡ true

proper_one : (window : Window) (span : Span) → Proper window (span ∷ [])
proper_one window span =
    let ends : max span.ended 0 ≡ span.ended = omega arith in
    record {
      some = omega arith;
      alone = λ failed. refl;
      slim = λ all. let less : units window span.ended - units window span.began < 20 =
          ltb-true (units window span.ended - units window span.began) 20 (and_right (not span.failed) _ (and_left _ true all)) in
          subst (λ (n : ℕ). units window n - units window span.began < 50) (sym ends) (omega (arith, less));
      several = λ more. absurd (omega (arith, more));
    }

began-last : (bar : List Span) (span : Span) → 0 < length bar → began_of (bar ++ span ∷ []) ≡ began_of bar
began-last [] span some = absurd (omega (arith, some))
began-last (first ∷ rest) span some = refl

either_max : (P : ℕ → Type 0) (a b : ℕ) → P a → P b → P (max a b)
either_max P a b left right = by (max_is a b)
  where
    max_is : (a b : ℕ) → (max a b ≡ a) ⊎ (max a b ≡ b)
    max_is a b = grind arith

    by : (max a b ≡ a) ⊎ (max a b ≡ b) → P (max a b)
    by (inl is) = subst P (sym is) left
    by (inr is) = subst P (sym is) right

proper_more : (window : Window) (bar : List Span) (span : Span) → joins window bar span ≡ true → Proper window bar
    → Proper window (bar ++ span ∷ [])
proper_more window bar span joined proper =
    let narrow = joins_narrow window bar span joined in
    let close : Bool = ltb (units window span.began - units window (ended_of bar)) 10 in
    let short : Bool = ltb (units window span.ended - units window (began_of bar)) 50 in
    let both : is_narrow window span && list_all (is_narrow window) bar ≡ true = and_left _ close (and_left _ short joined) in
    let all : list_all (is_narrow window) bar ≡ true = and_right (is_narrow window span) (list_all (is_narrow window) bar) both in
    let all_more : list_all (is_narrow window) (bar ++ span ∷ []) ≡ true = all-last (is_narrow window) bar span narrow ∙ all in
    let less : units window span.ended - units window (began_of bar) < 50 =
    ltb-true (units window span.ended - units window (began_of bar)) 50
    (and_right (is_narrow window span && list_all (is_narrow window) bar && close) short joined) in
    let count = length-append bar (span ∷ []) in
    record {
      some = omega (arith, count);
      alone = λ failed. let none = narrow_none_failed window (bar ++ span ∷ []) all_more in absurd (cc);
      slim = λ same. subst (λ (n : ℕ). units window n - units window (began_of (bar ++ span ∷ [])) < 50) (sym (ended-last bar span))
          (subst (λ (n : ℕ). units window (max (ended_of bar) span.ended) - units window n < 50) (sym (began-last bar span proper.some))
          (either_max (λ (n : ℕ). units window n - units window (began_of bar) < 50) (ended_of bar) span.ended (proper.slim all) less));
      several = λ more. all_more;
    }

proper_bars_from : (window : Window) (bar rest : List Span) → Proper window bar → AllByRecursion (Proper window) (bars_from window bar rest)
proper_bars_from window bar [] proper = (proper, tt)
proper_bars_from window bar (span ∷ rest) proper =
    by (joins window bar span) refl (λ more. proper_bars_from window (bar ++ span ∷ []) rest more)
    (proper_bars_from window (span ∷ []) rest (proper_one window span))
  where
    by : (b : Bool) → joins window bar span ≡ b
        → (Proper window (bar ++ span ∷ []) → AllByRecursion (Proper window) (bars_from window (bar ++ span ∷ []) rest))
        → AllByRecursion (Proper window) (bars_from window (span ∷ []) rest)
        → AllByRecursion (Proper window) (cond b (bars_from window (bar ++ span ∷ []) rest) (bar ∷ bars_from window (span ∷ []) rest))
    by true joined more next = more (proper_more window bar span joined proper)
    by false apart more next = (proper, next)

proper_bars_in : (window : Window) (spans : List Span) → AllByRecursion (Proper window) (bars_in window spans)
proper_bars_in window [] = tt
proper_bars_in window (span ∷ rest) = proper_bars_from window (span ∷ []) rest (proper_one window span)

each_proper : (window : Window) (lanes : List (List Span)) → EachBar (Proper window) (map (bars_in window) lanes)
each_proper window [] = tt
each_proper window (lane ∷ lanes) = (proper_bars_in window lane, each_proper window lanes)

pub all_imply : {A : Type 0} (P Q : A → Type 0) → ((x : A) → P x → Q x) → (xs : List A) → AllByRecursion P xs → AllByRecursion Q xs
all_imply P Q imply [] all = tt
all_imply P Q imply (x ∷ xs) all = (imply x all.0, all_imply P Q imply xs all.1)

each_imply : (P Q : List Span → Type 0) → ((bar : List Span) → P bar → Q bar) → (lanes : List (List (List Span))) → EachBar P lanes
    → EachBar Q lanes
each_imply P Q imply lanes each = all_imply (AllByRecursion P) (AllByRecursion Q) (λ bars all. all_imply P Q imply bars all) lanes each

pub failed_alone : (window : Window) (max_lanes : ℕ) (spans : List Span) → EachBar IsAloneIfFailed (bars_of window max_lanes spans)
failed_alone window max_lanes spans =
    each_imply (Proper window) IsAloneIfFailed (λ bar proper. proper.alone) (bars_of window max_lanes spans)
    (each_proper window (lanes_of max_lanes spans))

pub joined_narrow : (window : Window) (max_lanes : ℕ) (spans : List Span) → EachBar (IsSlimIfJoined window) (bars_of window max_lanes spans)
joined_narrow window max_lanes spans =
    each_imply (Proper window) (IsSlimIfJoined window)
    (λ bar proper more. (proper.slim (proper.several more), narrow_none_failed window bar (proper.several more)))
    (bars_of window max_lanes spans) (each_proper window (lanes_of max_lanes spans))

-- ---- bars in turn

-- Each span begins when those before it have ended, the last of them at this time, or later.
abbrev Follow : ℕ → List Span → Type 0
Follow end [] = Unit {0}
Follow end (span ∷ rest) = (end ≤ span.began) × Follow (max end span.ended) rest

-- The spans in each lane but the last one that is allowed follow each other.
abbrev AllFollow : ℕ → List (List Span) → Type 0
AllFollow max_lanes [] = Unit {0}
AllFollow max_lanes (lane ∷ lanes) = (1 < max_lanes → Follow 0 lane) × AllFollow (max_lanes - 1) lanes

follow-weaker : (low high : ℕ) (spans : List Span) → low ≤ high → Follow high spans → Follow low spans
follow-weaker low high [] le follow = tt
follow-weaker low high (span ∷ rest) le follow = (
  let begins = follow.0 in omega (arith, le, begins),
  follow-weaker (max low span.ended) (max high span.ended) rest
      (omega (arith, le)) follow.1,
)

follow-last : (end : ℕ) (lane : List Span) (span : Span) → end ≤ span.began → ended_of lane ≤ span.began → Follow end lane
    → Follow end (lane ++ span ∷ [])
follow-last end [] span after ended follow = (after, tt)
follow-last end (first ∷ rest) span after ended follow =
    (follow.0, follow-last (max end first.ended) rest span (omega (arith, after, ended)) (omega (arith, ended)) follow.1)

take_lane-follow : (max_lanes : ℕ) (span : Span) (lanes : List (List Span)) → AllFollow max_lanes lanes
    → AllFollow max_lanes (take_lane max_lanes span lanes)
take_lane-follow max_lanes span [] follow = (λ more. (omega arith, tt), tt)
take_lane-follow max_lanes span (lane ∷ lanes) follow =
    by (is_free span lane || leb max_lanes 1) refl (take_lane-follow (max_lanes - 1) span lanes follow.1)
  where
    free : (b : Bool) → b || leb max_lanes 1 ≡ true → 1 < max_lanes → b ≡ true
    free true taken more = refl
    free false taken more = absurd (let few = leb-true _ _ taken in omega (arith, few, more))

    by : (b : Bool) → (is_free span lane || leb max_lanes 1) ≡ b → AllFollow (max_lanes - 1) (take_lane (max_lanes - 1) span lanes)
        → AllFollow max_lanes (cond b ((lane ++ span ∷ []) ∷ lanes) (lane ∷ take_lane (max_lanes - 1) span lanes))
    by true taken later = (
      λ more. follow-last 0 lane span (omega arith) (leb-true _ _ (free (is_free span lane) taken more))
          (follow.0 more),
      follow.1,
    )
    by false other later = (follow.0, later)

take_lanes-follow : (max_lanes : ℕ) (lanes : List (List Span)) (spans : List Span) → AllFollow max_lanes lanes
    → AllFollow max_lanes (take_lanes max_lanes lanes spans)
take_lanes-follow max_lanes lanes [] follow = follow
take_lanes-follow max_lanes lanes (span ∷ rest) follow =
    take_lanes-follow max_lanes (take_lane max_lanes span lanes) rest (take_lane-follow max_lanes span lanes follow)

-- Each bar begins when the one before has ended, or later.
abbrev BarsFollow : List (List Span) → Type 0
BarsFollow [] = Unit {0}
BarsFollow (bar ∷ []) = Unit {0}
BarsFollow (bar ∷ next ∷ bars) = (ended_of bar ≤ began_of next) × BarsFollow (next ∷ bars)

-- The first bar begins at this time.
abbrev FirstBegan : ℕ → List (List Span) → Type 0
FirstBegan began [] = Unit {0}
FirstBegan began (bar ∷ bars) = began_of bar ≡ began

bars_follow-cons : (bar : List Span) (bars : List (List Span)) (began : ℕ) → FirstBegan began bars → ended_of bar ≤ began → BarsFollow bars
    → BarsFollow (bar ∷ bars)
bars_follow-cons bar [] began first le follow = tt
bars_follow-cons bar (next ∷ bars) began first le follow = (omega (arith, first, le), follow)

module _ (window : Window) where
  first_began : (bar rest : List Span) → 0 < length bar → FirstBegan (began_of bar) (bars_from window bar rest)
  first_began bar [] some = refl
  first_began bar (span ∷ rest) some =
      by (joins window bar span) (first_began (bar ++ span ∷ []) rest (let count = length-append bar (span ∷ []) in omega (arith, count)))
    where
      by : (b : Bool) → FirstBegan (began_of (bar ++ span ∷ [])) (bars_from window (bar ++ span ∷ []) rest)
          → FirstBegan (began_of bar) (cond b (bars_from window (bar ++ span ∷ []) rest) (bar ∷ bars_from window (span ∷ []) rest))
      by true more = subst (λ (n : ℕ). FirstBegan n (bars_from window (bar ++ span ∷ []) rest)) (began-last bar span some) more
      by false more = refl

  bars_from-follow : (bar rest : List Span) → 0 < length bar → Follow (ended_of bar) rest → BarsFollow (bars_from window bar rest)
  bars_from-follow bar [] some follow = tt
  bars_from-follow bar (span ∷ rest) some follow =
      by (joins window bar span)
      (bars_from-follow (bar ++ span ∷ []) rest (let count = length-append bar (span ∷ []) in omega (arith, count))
      (subst (λ (n : ℕ). Follow n rest) (sym (ended-last bar span)) follow.1))
      (λ later. bars_from-follow (span ∷ []) rest (omega arith) later)
    where
      by : (b : Bool) → BarsFollow (bars_from window (bar ++ span ∷ []) rest)
          → (Follow (ended_of (span ∷ [])) rest → BarsFollow (bars_from window (span ∷ []) rest))
          → BarsFollow (cond b (bars_from window (bar ++ span ∷ []) rest) (bar ∷ bars_from window (span ∷ []) rest))
      by true more next = more
      by false more next = bars_follow-cons bar (bars_from window (span ∷ []) rest) span.began
          (first_began (span ∷ []) rest (omega arith)) follow.0
          (next (follow-weaker (max span.ended 0) (max (ended_of bar) span.ended) rest (omega arith) follow.1))

  bars_in-follow : (spans : List Span) → Follow 0 spans → BarsFollow (bars_in window spans)
  bars_in-follow [] follow = tt
  bars_in-follow (span ∷ rest) follow =
      bars_from-follow (span ∷ []) rest (omega arith) (follow-weaker (max span.ended 0) (max 0 span.ended) rest (omega arith) follow.1)

  module _ (max_lanes : ℕ) where
    lane-in_turn : (lane : ℕ) (bars : List (List Span)) (rest : List Bar) → (lane + 1 < max_lanes → BarsFollow bars)
        → AllByRecursion (λ (bar : Bar). lane < bar.lane) rest → AreInTurn max_lanes rest
        → AreInTurn max_lanes (map (bar_of window lane) bars ++ rest)
    lane-in_turn lane [] rest follow above turn = turn
    lane-in_turn lane (bar ∷ []) [] follow above turn = tt
    lane-in_turn lane (bar ∷ []) (next ∷ rest) follow above turn = (inl above.0, turn)
    lane-in_turn lane (bar ∷ next ∷ bars) rest follow above turn =
        (inr (refl, λ more. (follow more).0), lane-in_turn lane (next ∷ bars) rest (λ more. (follow more).1) above turn)

  lane-above : (low lane : ℕ) (bars : List (List Span)) (rest : List Bar) → low < lane → AllByRecursion (λ (bar : Bar). low < bar.lane) rest
      → AllByRecursion (λ (bar : Bar). low < bar.lane) (map (bar_of window lane) bars ++ rest)
  lane-above low lane [] rest less above = above
  lane-above low lane (bar ∷ bars) rest less above = (less, lane-above low lane bars rest less above)

  drawn-above : (low lane : ℕ) (lanes : List (List (List Span))) → low < lane
      → AllByRecursion (λ (bar : Bar). low < bar.lane) (drawn_bars window lane lanes)
  drawn-above low lane [] less = tt
  drawn-above low lane (bars ∷ lanes) less =
      lane-above low lane bars (drawn_bars window (lane + 1) lanes) less (drawn-above low (lane + 1) lanes (omega (arith, less)))

  drawn-in_turn : (max_lanes lane : ℕ) (lanes : List (List Span)) → AllFollow (max_lanes - lane) lanes
      → AreInTurn max_lanes (drawn_bars window lane (map (bars_in window) lanes))
  drawn-in_turn max_lanes lane [] follow = tt
  drawn-in_turn max_lanes lane (spans ∷ lanes) follow =
      let less : max_lanes - lane - 1 ≡ max_lanes - (lane + 1) = omega arith in
      lane-in_turn max_lanes lane (bars_in window spans) (drawn_bars window (lane + 1) (map (bars_in window) lanes))
      (λ more. bars_in-follow spans (follow.0 (omega (arith, more))))
      (drawn-above lane (lane + 1) (map (bars_in window) lanes) (omega arith))
      (drawn-in_turn max_lanes (lane + 1) lanes (subst (λ (n : ℕ). AllFollow n lanes) less follow.1))

pub in_turn : (window : Window) (max_lanes : ℕ) (spans : List Span) → AreInTurn max_lanes ((timeline_of window max_lanes spans).bars)
in_turn window max_lanes spans =
    let all : max_lanes ≡ max_lanes - 0 = omega arith in
    drawn-in_turn window max_lanes 0 (lanes_of max_lanes spans)
    (subst (λ (n : ℕ). AllFollow n (lanes_of max_lanes spans)) all (take_lanes-follow max_lanes [] (in_order spans) tt))

-- ---- the lanes of bars

take_lane-count : (max_lanes : ℕ) (span : Span) (lanes : List (List Span)) → 0 < max_lanes → length lanes ≤ max_lanes
    → length (take_lane max_lanes span lanes) ≤ max_lanes
take_lane-count max_lanes span [] some few = omega (arith, some)
take_lane-count max_lanes span (lane ∷ lanes) some few =
    by (is_free span lane || leb max_lanes 1) refl (take_lane-count (max_lanes - 1) span lanes)
  where
    right : (a b : Bool) → a || b ≡ false → b ≡ false
    right true b h = absurd (cc)
    right false b h = h

    by : (b : Bool) → (is_free span lane || leb max_lanes 1) ≡ b
        → (0 < max_lanes - 1 → length lanes ≤ max_lanes - 1 → length (take_lane (max_lanes - 1) span lanes) ≤ max_lanes - 1)
        → length (cond b ((lane ++ span ∷ []) ∷ lanes) (lane ∷ take_lane (max_lanes - 1) span lanes)) ≤ max_lanes
    by true taken later = few
    by false other later =
        let more : 1 < max_lanes = leb-false _ _ (right (is_free span lane) _ other) in
        let count : length (take_lane (max_lanes - 1) span lanes) ≤ max_lanes - 1 = later (omega (arith, more)) (omega (arith, few)) in
        omega (arith, count, more)

take_lanes-count : (max_lanes : ℕ) (lanes : List (List Span)) (spans : List Span) → 0 < max_lanes → length lanes ≤ max_lanes
    → length (take_lanes max_lanes lanes spans) ≤ max_lanes
take_lanes-count max_lanes lanes [] some few = few
take_lanes-count max_lanes lanes (span ∷ rest) some few =
    take_lanes-count max_lanes (take_lane max_lanes span lanes) rest some (take_lane-count max_lanes span lanes some few)

lane-below : (window : Window) (high lane : ℕ) (bars : List (List Span)) (rest : List Bar) → lane < high
    → AllByRecursion (λ (bar : Bar). bar.lane < high) rest
    → AllByRecursion (λ (bar : Bar). bar.lane < high) (map (bar_of window lane) bars ++ rest)
lane-below window high lane [] rest less below = below
lane-below window high lane (bar ∷ bars) rest less below = (less, lane-below window high lane bars rest less below)

drawn-below : (window : Window) (high lane : ℕ) (lanes : List (List Span)) → lane + length lanes ≤ high
    → AllByRecursion (λ (bar : Bar). bar.lane < high) (drawn_bars window lane (map (bars_in window) lanes))
drawn-below window high lane [] le = tt
drawn-below window high lane (spans ∷ lanes) le =
    lane-below window high lane (bars_in window spans) (drawn_bars window (lane + 1) (map (bars_in window) lanes)) (omega (arith, le))
    (drawn-below window high (lane + 1) lanes (omega (arith, le)))

pub in_lanes : (window : Window) (max_lanes : ℕ) (spans : List Span) → IsInLanes max_lanes (timeline_of window max_lanes spans)
in_lanes window max_lanes spans some = (
  take_lanes-count max_lanes [] (in_order spans) some (omega arith),
  drawn-below window (length (lanes_of max_lanes spans)) 0
      (lanes_of max_lanes spans) (omega arith),
)
