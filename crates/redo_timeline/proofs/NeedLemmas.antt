-- No lane is opened unless as many spans run at once.
use Rattle.std.proofs.Common.{◌≡◌, ℕ, suc, ◌+◌, ◌-◌, ◌<◌, ◌≤◌, ◌⊎◌, inl, inr, leb, ltb, Bool, true, false, cond, List, [], ◌∷◌, ◌++◌, length, refl, ap, ◌∙◌, arith}
use Rattle.std.specs.Prelude.{◌&&◌, ◌||◌}
use Rattle.std.specs.declared.cmp.Ordering.{Ordering}
use Rattle.std.specs.declared.cmp.Ordering.TheVariants.{Less, Equal, Greater}
use Rattle.std.specs.List.{AllByRecursion}
use Rattle.std.specs.List.Sorted.{IsPermutation}
use Rattle.std.specs.Ordering.{MatchOrdering, bool_cmp, is_gt, nat_cmp, ordering_then}
use Rattle.std.proofs.lemmas.Bool.{le-leb, leb-false}
use Rattle.std.proofs.lemmas.Bool.Decides.{leb_tells}
use Rattle.std.proofs.lemmas.Cmp.{ranked}
use Rattle.std.proofs.lemmas.List.Elements.{All-from_recursion, recursion_from_All}
use Rattle.std.proofs.lemmas.List.Sorted.{All-permutation, IsPermutation-append_left, IsPermutation-middle, IsPermutation-trans}
use Rattle.redo_timeline.specs.declared.span.Span.{Span}
use Rattle.redo_timeline.specs.declared.span.Window.{Window}
use Rattle.redo_timeline.specs.Lanes.{ended_of, is_free, take_lane, take_lanes}
use Rattle.redo_timeline.specs.Order.{in_order, span_cmp}
use Rattle.redo_timeline.specs.Parallelism.{count_at, most_of, runs_at}
use Rattle.redo_timeline.specs.Timeline.{timeline_of}
use Rattle.redo_timeline.proofs.CountLemmas.{all_below, count_by_is, one_if}
use Rattle.redo_timeline.proofs.LawLemmas.{all_imply, joined, take_lane-permutation}
use Rattle.redo_timeline.proofs.OrderLemmas.{IsRising, in_order-permutation, in_order-rising, sum_of, sum_of-permutation}

-- ---- the order of beginnings

began_le : (a b : Span) → is_gt (span_cmp a b) ≡ false → a.began ≤ b.began
began_le a b le = by (nat_cmp a.began b.began) (ranked a.began b.began (nat_cmp a.began b.began) refl) le
  where
    by : (o : Ordering) → MatchOrdering o (a.began < b.began) (a.began ≡ b.began) (b.began < a.began)
        → is_gt (ordering_then o (ordering_then (nat_cmp a.position b.position)
        (ordering_then (nat_cmp a.ended b.ended) (bool_cmp a.failed b.failed)))) ≡ false → a.began ≤ b.began
    by Less is le = omega (arith, is)
    by Equal is le = omega (arith, is)
    by Greater is le = absurd (cc)

-- Each span begins at this time or later, and at the time when the one before begins or later.
abbrev pub Ascending : ℕ → List Span → Type 0
Ascending low [] = Unit {0}
Ascending low (span ∷ rest) = (low ≤ span.began) × Ascending span.began rest

pub rising-ascending : (low : ℕ) (spans : List Span) → AllByRecursion (λ (span : Span). low ≤ span.began) spans → IsRising span_cmp spans
    → Ascending low spans
rising-ascending low [] above up = tt
rising-ascending low (span ∷ rest) above up = (
  above.0,
  rising-ascending span.began rest
      (all_imply (λ (other : Span). is_gt (span_cmp span other) ≡ false) (λ (other : Span). span.began ≤ other.began)
      (began_le span) rest up.0) up.1,
)

pub all_above_zero : (spans : List Span) → AllByRecursion (λ (span : Span). 0 ≤ span.began) spans
all_above_zero [] = tt
all_above_zero (span ∷ rest) = (omega arith, all_above_zero rest)

-- ---- lists

pub all_left : {A : Type 0} (P : A → Type 0) (xs ys : List A) → AllByRecursion P (xs ++ ys) → AllByRecursion P xs
all_left P [] ys all = tt
all_left P (x ∷ xs) ys all = (all.0, all_left P xs ys all.1)

pub all_right : {A : Type 0} (P : A → Type 0) (xs ys : List A) → AllByRecursion P (xs ++ ys) → AllByRecursion P ys
all_right P [] ys all = all
all_right P (x ∷ xs) ys all = all_right P xs ys all.1

all_moved : {A : Type 0} (P : A → Type 0) (xs ys : List A) → IsPermutation xs ys → AllByRecursion P xs → AllByRecursion P ys
all_moved P xs ys moved all = recursion_from_All P ys (All-permutation P xs ys moved (All-from_recursion P xs all))

pub sum_of-append : {A : Type 0} (f : A → ℕ) (xs ys : List A) → sum_of f (xs ++ ys) ≡ sum_of f xs + sum_of f ys
sum_of-append f [] ys = omega arith
sum_of-append f (x ∷ xs) ys = let more = sum_of-append f xs ys in omega (arith, more)

-- ---- lanes that are not free

abbrev running : ℕ → List Span → ℕ
running time spans = sum_of (λ (span : Span). one_if (runs_at time span)) spans

-- A span runs in a lane whose spans began, and that has not ended.
one_runs : (time : ℕ) (lane : List Span) → AllByRecursion (λ (span : Span). span.began ≤ time) lane → time < ended_of lane
    → 0 < running time lane
one_runs time [] begun late = absurd (omega (arith, late))
one_runs time (span ∷ rest) begun late = by (leb_tells span.ended time) (λ later. one_runs time rest begun.1 later)
  where
    by : ((leb span.ended time ≡ true) × (span.ended ≤ time)) ⊎ ((leb span.ended time ≡ false) × (time < span.ended))
        → (time < ended_of rest → 0 < running time rest) → 0 < running time (span ∷ rest)
    by (inl ended) more = let le = ended.1 in let later = more (omega (arith, late, le)) in omega (arith, later)
    by (inr runs) more =
        let itself : runs_at time span ≡ true =
        ap (λ b. b && ltb time span.ended) (le-leb span.began time begun.0) ∙ le-leb (suc time) span.ended runs.1 in
        let one = ap one_if itself in omega (arith, one)

each_runs : (time : ℕ) (lanes : List (List Span)) → AllByRecursion (λ (span : Span). span.began ≤ time) (joined lanes)
    → AllByRecursion (λ (lane : List Span). time < ended_of lane) lanes → length lanes ≤ running time (joined lanes)
each_runs time [] begun late = omega arith
each_runs time (lane ∷ lanes) begun late =
    let here = one_runs time lane (all_left (λ (span : Span). span.began ≤ time) lane (joined lanes) begun) late.0 in
    let later = each_runs time lanes (all_right (λ (span : Span). span.began ≤ time) lane (joined lanes) begun) late.1 in
    let both = sum_of-append (λ (span : Span). one_if (runs_at time span)) lane (joined lanes) in omega (arith, here, later, both)

-- A new lane is taken only if each lane has a span that ends after the new span begins.
opened : (max_lanes : ℕ) (span : Span) (lanes : List (List Span))
    → (length (take_lane max_lanes span lanes) ≤ length lanes) ⊎
    ((length (take_lane max_lanes span lanes) ≡ length lanes + 1) × AllByRecursion (λ (lane : List Span). span.began < ended_of lane) lanes)
opened max_lanes span [] = inr (refl, tt)
opened max_lanes span (lane ∷ lanes) = by (is_free span lane || leb max_lanes 1) refl (opened (max_lanes - 1) span lanes)
  where
    left : (a b : Bool) → a || b ≡ false → a ≡ false
    left true b h = absurd (cc)
    left false b h = refl

    by : (b : Bool) → (is_free span lane || leb max_lanes 1) ≡ b
        → (length (take_lane (max_lanes - 1) span lanes) ≤ length lanes) ⊎
        ((length (take_lane (max_lanes - 1) span lanes) ≡ length lanes + 1)
        × AllByRecursion (λ (lane : List Span). span.began < ended_of lane) lanes)
        → (length (cond b ((lane ++ span ∷ []) ∷ lanes) (lane ∷ take_lane (max_lanes - 1) span lanes)) ≤ length (lane ∷ lanes))
        ⊎ ((length (cond b ((lane ++ span ∷ []) ∷ lanes) (lane ∷ take_lane (max_lanes - 1) span lanes)) ≡ length (lane ∷ lanes) + 1)
        × AllByRecursion (λ (lane : List Span). span.began < ended_of lane) (lane ∷ lanes))
    by true taken later = inl (omega arith)
    by false other (inl le) = inl (omega (arith, le))
    by false other (inr more) = inr (let count = more.0 in omega (arith, count), (leb-false _ _ (left (is_free span lane) _ other), more.1))

-- ---- the number of lanes

-- A span counts itself among those that run when it begins.
counts_with_itself : (b : Bool) → one_if b + cond b 0 1 ≡ 1
counts_with_itself true = refl
counts_with_itself false = refl

one_more : (all : List Span) (before : List Span) (span : Span) (rest : List Span) → IsPermutation all (before ++ span ∷ rest)
    → running span.began before + 1 ≤ most_of all
one_more all before span rest moved =
    let bound = all_right (λ (span : Span). count_at all span ≤ most_of all) before (span ∷ rest)
    (all_moved (λ (span : Span). count_at all span ≤ most_of all) all (before ++ span ∷ rest) moved
    (all_below (count_at all) all (most_of all) (omega arith))) in
    let at_most : count_at all span ≤ most_of all = bound.0 in
    let count = count_by_is (runs_at span.began) all in
    let same = sum_of-permutation (λ (other : Span). one_if (runs_at span.began other)) all (before ++ span ∷ rest) moved in
    let split = sum_of-append (λ (other : Span). one_if (runs_at span.began other)) before (span ∷ rest) in
    let itself = counts_with_itself (runs_at span.began span) in omega (arith, at_most, count, same, split, itself)

needed : (max_lanes : ℕ) (all : List Span) (lanes : List (List Span)) (spans : List Span) (low : ℕ)
    → IsPermutation all (joined lanes ++ spans) → AllByRecursion (λ (span : Span). span.began ≤ low) (joined lanes) → Ascending low spans
    → length lanes ≤ most_of all → length (take_lanes max_lanes lanes spans) ≤ most_of all
needed max_lanes all lanes [] low moved begun up le = le
needed max_lanes all lanes (span ∷ rest) low moved begun up le =
    let earlier : AllByRecursion (λ (other : Span). other.began ≤ span.began) (joined lanes) =
    all_imply (λ (other : Span). other.began ≤ low) (λ (other : Span). other.began ≤ span.began)
    (λ other before. let least = up.0 in omega (arith, before, least)) (joined lanes) begun in
    let taken = take_lane-permutation max_lanes span lanes in
    needed max_lanes all (take_lane max_lanes span lanes) rest span.began
    (IsPermutation-trans _ _ _ moved (IsPermutation-trans _ _ _ (IsPermutation-middle (joined lanes) span rest)
    (IsPermutation-append_left rest _ _ taken)))
    (all_moved (λ (other : Span). other.began ≤ span.began) (span ∷ joined lanes) (joined (take_lane max_lanes span lanes)) taken
    (omega arith, earlier)) up.1
    (by (opened max_lanes span lanes) earlier)
  where
    by : (length (take_lane max_lanes span lanes) ≤ length lanes) ⊎
        ((length (take_lane max_lanes span lanes) ≡ length lanes + 1)
        × AllByRecursion (λ (lane : List Span). span.began < ended_of lane) lanes)
        → AllByRecursion (λ (other : Span). other.began ≤ span.began) (joined lanes) → length (take_lane max_lanes span lanes) ≤ most_of all
    by (inl fewer) earlier = omega (arith, fewer, le)
    by (inr more) earlier =
        let count = more.0 in let each = each_runs span.began lanes earlier more.1 in let bound =
        one_more all (joined lanes) span rest moved in omega (arith, count, each, bound)

pub lanes_needed : (window : Window) (max_lanes : ℕ) (spans : List Span) → (timeline_of window max_lanes spans).lane_count ≤ most_of spans
lanes_needed window max_lanes spans =
    needed max_lanes spans [] (in_order spans) 0 (in_order-permutation spans) tt
    (rising-ascending 0 (in_order spans) (all_above_zero (in_order spans)) (in_order-rising spans)) (omega arith)
