-- How long exactly one span runs until each point at which spans begin or end.
use Rattle.std.proofs.Common.{◌≡◌, ℕ, ◌+◌, ◌-◌, ◌<◌, ◌≤◌, ◌⊎◌, inl, inr, leb, ltb, ◌==◌, Bool, true, false, cond, List, [], ◌∷◌, ◌++◌, length, map, get_or, take, Contains, refl, sym, ap, ◌∙◌, subst, arith}
use Rattle.std.specs.Prelude.{◌&&◌}
use Rattle.std.specs.List.{All, AllByRecursion, AllWithin}
use Rattle.std.specs.List.Sorted.{IsNonDecreasing}
use Rattle.std.proofs.lemmas.Bool.{and_from, and_right, cases_lt, eq-eqb, le-leb, le-ltb, lt-leb, lt-ltb, ltb-false, ltb-true, ne_eqb}
use Rattle.std.proofs.lemmas.List.{get_or-map, get_or_default, length-map, map_more}
use Rattle.std.proofs.lemmas.List.Elements.{Contains-append_left, Contains-append_right, Contains-get_or, recursion_from_All}
use Rattle.std.proofs.lemmas.List.Sorted.{All-permutation, Contains-permutation, IsPermutation-sym}
use Rattle.redo_timeline.specs.declared.span.Span.{Span}
use Rattle.redo_timeline.specs.Alone.{alone, running_at, time_with}
use Rattle.redo_timeline.specs.Parallelism.{runs_at}
use Rattle.redo_timeline.specs.Private.Counting.{AreSortedTimes, begins_of, end_of, ends_of_spans}
use Rattle.redo_timeline.specs.Private.Summing.{alone_until, points_of}
use Rattle.redo_timeline.proofs.CountLemmas.{count_by_is, count_of, one_if}
use Rattle.redo_timeline.proofs.NeedLemmas.{all_left, all_right}
use Rattle.redo_timeline.proofs.TimeLemmas.{time_with-bounded, time_with-constant, time_with-same, time_with-split}

-- ---- between two points the same spans run

-- A time isn't between two others.
abbrev pub IsOutside : ℕ → ℕ → ℕ → Type 0
IsOutside low high time = (time ≤ low) ⊎ (high ≤ time)

-- No span begins or ends between two times.
abbrev pub AreOutside : ℕ → ℕ → List Span → Type 0
AreOutside low high spans = AllByRecursion (λ (span : Span). IsOutside low high span.began × IsOutside low high (end_of span)) spans

module _ (low high time : ℕ) (from : low ≤ time) (until : time < high) where
  still_runs : (span : Span) → IsOutside low high span.began → IsOutside low high (end_of span) → runs_at time span ≡ runs_at low span
  still_runs span (inl begun) (inl ended) =
      and_right (leb span.began time) (ltb time span.ended) (le-ltb time span.ended (omega (arith, from, ended)))
      ∙ sym (and_right (leb span.began low) (ltb low span.ended) (le-ltb low span.ended (omega (arith, ended))))
  still_runs span (inl begun) (inr runs) =
      and_from (leb span.began time) (ltb time span.ended) (le-leb span.began time (omega (arith, from, begun)))
      (lt-ltb time span.ended (omega (arith, from, until, begun, runs)))
      ∙ sym (and_from (leb span.began low) (ltb low span.ended) (le-leb span.began low begun)
      (lt-ltb low span.ended (omega (arith, from, until, begun, runs))))
  still_runs span (inr later) ended =
      ap (λ (b : Bool). b && ltb time span.ended) (lt-leb span.began time (omega (arith, until, later)))
      ∙ sym (ap (λ (b : Bool). b && ltb low span.ended) (lt-leb span.began low (omega (arith, from, until, later))))

  same_count : (spans : List Span) → AreOutside low high spans → count_of (runs_at time) spans ≡ count_of (runs_at low) spans
  same_count [] outside = refl
  same_count (span ∷ rest) outside =
      let here = ap one_if (still_runs span outside.0.0 outside.0.1) in let later = same_count rest outside.1 in omega (arith, here, later)

  pub same_spans_run : (spans : List Span) → AreOutside low high spans → running_at spans time ≡ running_at spans low
  same_spans_run spans outside =
      sym (count_by_is (runs_at time) spans) ∙ same_count spans outside ∙ count_by_is (runs_at low) spans

-- ---- the sum at the next point

-- How long exactly one span runs from a point until the next one.
abbrev pub next_part : List Span → ℕ → ℕ → ℕ
next_part spans low high = cond (running_at spans low == 1) (high - low) 0

pub part_if_one : (spans : List Span) (low high : ℕ) → running_at spans low ≡ 1 → next_part spans low high ≡ high - low
part_if_one spans low high one = ap (λ (b : Bool). cond b (high - low) 0) (eq-eqb (running_at spans low) 1 one)

pub part_if_not_one : (spans : List Span) (low high : ℕ) → (running_at spans low ≡ 1 → ⊥) → next_part spans low high ≡ 0
part_if_not_one spans low high other = ap (λ (b : Bool). cond b (high - low) 0) (ne_eqb (running_at spans low) 1 other)

pub until_next : (spans : List Span) (low high : ℕ) → low ≤ high → AreOutside low high spans
    → alone_until spans high ≡ alone_until spans low + next_part spans low high
until_next spans low high up outside =
    let one : ℕ → Bool = λ (time : ℕ). running_at spans time == 1 in
    let all : high ≡ low + (high - low) = omega (arith, up) in
    let start : 0 + low ≡ low = omega arith in
    ap (time_with one 0) all ∙ time_with-split one 0 low (high - low)
    ∙ ap (λ (time : ℕ). time_with one 0 low + time_with one time (high - low)) start
    ∙ ap (λ (n : ℕ). time_with one 0 low + n)
    (time_with-same one (λ (time : ℕ). running_at spans low == 1) low (high - low)
    (λ time from until. ap (λ (n : ℕ). n == 1) (same_spans_run low high time from (omega (arith, up, until)) spans outside))
    ∙ time_with-constant (running_at spans low == 1) low (high - low))

pub until_bounded : (spans : List Span) (time : ℕ) → alone_until spans time ≤ time
until_bounded spans time = time_with-bounded (λ (time : ℕ). running_at spans time == 1) 0 time

-- ---- the difference of two sums

pub until_end : (spans : List Span) (span : Span) → alone_until spans (end_of span) ≡ alone_until spans span.began + alone spans span
until_end spans span =
    let one : ℕ → Bool = λ (time : ℕ). running_at spans time == 1 in
    let width : ℕ = span.ended - span.began in
    let all : end_of span ≡ span.began + width = omega arith in
    let start : 0 + span.began ≡ span.began = omega arith in
    ap (time_with one 0) all ∙ time_with-split one 0 span.began width
    ∙ ap (λ (time : ℕ). time_with one 0 span.began + time_with one time width) start

-- The sums, as they are read again.
pub read_sums : (spans : List Span) (points first_points later_points sums later_sums : List ℕ) → first_points ≡ points
    → sums ≡ map (alone_until spans) first_points → later_points ≡ points → later_sums ≡ sums
    → later_sums ≡ map (alone_until spans) later_points
read_sums spans points first_points later_points sums later_sums first are later read =
    read ∙ are ∙ ap (map (alone_until spans)) (first ∙ sym later)

-- ---- points

contains_map : {A : Type 0} (f : A → ℕ) (xs : List A) (i : ℕ) (d : A) → i < length xs → Contains (map f xs) (f (get_or xs i d))
contains_map f xs i d below =
    let many = length-map xs f in
    subst (Contains (map f xs)) (get_or-map f xs i d 0 below) (Contains-get_or (map f xs) i 0 (omega (arith, many, below)))

module _ (spans : List Span) (points : List ℕ) (sorted : AreSortedTimes (points_of spans) points) where
  pub begin_is_point : (i : ℕ) (d : Span) → i < length spans → Contains points (get_or spans i d).began
  begin_is_point i d below =
      Contains-permutation (points_of spans) points (get_or spans i d).began sorted.0
      (Contains-append_left (begins_of spans) (ends_of_spans spans) (get_or spans i d).began
      (contains_map (λ (span : Span). span.began) spans i d below))

  pub end_is_point : (i : ℕ) (d : Span) → i < length spans → Contains points (end_of (get_or spans i d))
  end_is_point i d below =
      Contains-permutation (points_of spans) points (end_of (get_or spans i d)) sorted.0
      (Contains-append_right (begins_of spans) (ends_of_spans spans) (end_of (get_or spans i d)) (contains_map end_of spans i d below))

-- The first of the points that aren't before this one is this one.
pub position_of_point : (points : List ℕ) (point position : ℕ) → IsNonDecreasing points → Contains points point
    → AllWithin (λ (p : ℕ). ltb p point ≡ true) points 0 position
    → AllWithin (λ (p : ℕ). ltb p point ≡ false) points position (length points)
    → (position < length points) × (get_or points position point ≡ point)
position_of_point points point position up (k, below, at) before after =
    let early : position ≤ k = by (cases_lt k position) in
    let lower : get_or points position point ≤ get_or points k point = up position k point early below in
    let upper : point ≤ get_or points position point =
    ltb-false (get_or points position point) point (after position point (omega arith) (omega (arith, early, below))) in
    (omega (arith, early, below), omega (arith, lower, upper, at))
  where
    by : (k < position) ⊎ (position ≤ k) → position ≤ k
    by (inl less) =
        let lower = ltb-true (get_or points k point) point (before k point (omega arith) less) in absurd (omega (arith, lower, at))
    by (inr early) = early

pub sum_is_at : (f : ℕ → ℕ) (points sums : List ℕ) (point position : ℕ) → sums ≡ map f points → position < length points
    → get_or points position point ≡ point → get_or sums position 0 ≡ f point
sum_is_at f points sums point position are below at =
    ap (λ (sums : List ℕ). get_or sums position 0) are ∙ get_or-map f points position point 0 below ∙ ap f at

-- ---- the sums so far

spread : (P : ℕ → Type 0) (spans : List Span) → AllByRecursion P (begins_of spans) → AllByRecursion P (ends_of_spans spans)
    → AllByRecursion (λ (span : Span). P span.began × P (end_of span)) spans
spread P [] begins ends = tt
spread P (span ∷ rest) begins ends = ((begins.0, ends.0), spread P rest begins.1 ends.1)

-- The sums at the points before this index, the sum at the last of them, and this last one. The sum and the time are 0 if there is none.
pub record SumsBefore (spans : List Span) (points : List ℕ) (i : ℕ) (sums : List ℕ) (so_far last : ℕ) : Type 0 where
  pub sums_are : sums ≡ map (alone_until spans) (take i points)
  pub so_far_is : so_far ≡ alone_until spans last
  pub before : AllWithin (λ (point : ℕ). point ≤ last) points 0 i
  pub after : AllWithin (λ (point : ℕ). last ≤ point) points i (length points)

pub sums_first : (spans : List Span) (points sums : List ℕ) → sums ≡ [] → SumsBefore spans points 0 sums 0 0
sums_first spans points sums none = record {
  sums_are = none;
  so_far_is = refl;
  before = λ k d low high. absurd (omega (arith, high));
  after = λ k d low high. omega arith;
}

module _ (spans : List Span) (points : List ℕ) (i : ℕ) (sorted : AreSortedTimes (points_of spans) points) (below : i < length points) where
  outside : (last : ℕ) → AllWithin (λ (point : ℕ). point ≤ last) points 0 i → AreOutside last (get_or points i 0) spans
  outside last before =
      let P : ℕ → Type 0 = IsOutside last (get_or points i 0) in
      let all : All P points = λ k d high. at k d high (cases_lt k i) in
      let moved : AllByRecursion P (begins_of spans ++ ends_of_spans spans) =
      recursion_from_All P (points_of spans)
      (All-permutation P points (points_of spans) (IsPermutation-sym (points_of spans) points sorted.0) all) in
      spread P spans (all_left P (begins_of spans) (ends_of_spans spans) moved) (all_right P (begins_of spans) (ends_of_spans spans) moved)
    where
      at : (k d : ℕ) → k < length points → (k < i) ⊎ (i ≤ k) → IsOutside last (get_or points i 0) (get_or points k d)
      at k d high (inl less) = inl (before k d (omega arith) less)
      at k d high (inr later) =
          let up : get_or points i d ≤ get_or points k d = sorted.1 i k d later high in
          let same = get_or_default points i d 0 below in inr (omega (arith, up, same))

  pub sums_next : (sums new_sums : List ℕ) (so_far last new_so_far : ℕ)
      → new_so_far ≡ so_far + next_part spans last (get_or points i 0) → new_sums ≡ sums ++ new_so_far ∷ []
      → SumsBefore spans points i sums so_far last → SumsBefore spans points (i + 1) new_sums new_so_far (get_or points i 0)
  sums_next sums new_sums so_far last new_so_far new pushed before =
      let up : last ≤ get_or points i 0 = before.after i 0 (omega arith) below in
      let is : new_so_far ≡ alone_until spans (get_or points i 0) =
      new ∙ ap (λ (n : ℕ). n + next_part spans last (get_or points i 0)) before.so_far_is
      ∙ sym (until_next spans last (get_or points i 0) up (outside last before.before)) in
      record {
        sums_are =
            pushed ∙ ap (λ (sums : List ℕ). sums ++ new_so_far ∷ []) before.sums_are
            ∙ ap (λ (n : ℕ). map (alone_until spans) (take i points) ++ n ∷ []) is
            ∙ sym (map_more (alone_until spans) points i 0 below);
        so_far_is = is;
        before = λ k d low high. at_most k d (omega (arith, high));
        after = λ k d low high. at_least k d (omega (arith, low)) high;
      }
    where
      at_most : (k d : ℕ) → k ≤ i → get_or points k d ≤ get_or points i 0
      at_most k d low =
          let less : get_or points k d ≤ get_or points i d = sorted.1 k i d low below in
          let same = get_or_default points i d 0 below in omega (arith, less, same)

      at_least : (k d : ℕ) → i ≤ k → k < length points → get_or points i 0 ≤ get_or points k d
      at_least k d low high =
          let less : get_or points i d ≤ get_or points k d = sorted.1 i k d low high in
          let same = get_or_default points i d 0 below in omega (arith, less, same)
