-- How many spans run at once.
use Rattle.std.proofs.Common.{◌≡◌, ℕ, zero, suc, ◌+◌, ◌<◌, ◌≤◌, ◌⊎◌, inl, inr, max, leb, ltb, Bool, true, false, cond, List, [], ◌∷◌, length, map, get_or, drop, refl, sym, ap, ◌∙◌, subst, arith, drop-cons}
use Rattle.std.specs.Prelude.{◌&&◌}
use Rattle.std.specs.List.{AllByRecursion, AllWithin, count_by}
use Rattle.std.proofs.lemmas.Bool.{leb-true, le-leb, lt-leb, ltb-true}
use Rattle.std.proofs.lemmas.Bool.Decides.{leb_tells}
use Rattle.std.proofs.lemmas.List.{drop_all}
use Rattle.std.proofs.lemmas.List.Recursion.{is_sum_by}
use Rattle.redo_timeline.specs.declared.span.Span.{Span}
use Rattle.redo_timeline.specs.Parallelism.{count_at, greatest, most_of, runs_at}
use Rattle.redo_timeline.specs.Private.Counting.{AreSortedTimes, begins_of, end_of, ends_of_spans}
use Rattle.redo_timeline.proofs.BarLemmas.{and_left, and_right}
use Rattle.redo_timeline.proofs.OrderLemmas.{sum_of, sum_of-permutation}

abbrev pub one_if : Bool → ℕ
one_if b = cond b 1 0

-- How many items pass a test.
abbrev pub count_of : {A : Type 0} → (A → Bool) → List A → ℕ
count_of test xs = sum_of (λ x. one_if (test x)) xs

pub count_by_is : {A : Type 0} (test : A → Bool) (xs : List A) → count_of test xs ≡ count_by test xs
count_by_is test xs = is_sum_by (sum_of (λ x. one_if (test x))) (λ x. one_if (test x)) refl (λ x xs. refl) xs

-- ---- sorted times

count_none : {A : Type 0} (test : A → Bool) (xs : List A) → AllWithin (λ x. test x ≡ false) xs 0 (length xs) → count_of test xs ≡ 0
count_none test [] none = refl
count_none test (x ∷ xs) none =
    let here = ap one_if (none 0 x (omega arith) (omega arith)) in
    let later = count_none test xs (λ k d low high. none (suc k) d (omega arith) (omega (arith, high))) in omega (arith, here, later)

-- If the items before this position pass the test, and no others, then they are as many.
pub count_until_position : {A : Type 0} (test : A → Bool) (xs : List A) (i : ℕ) → i ≤ length xs → AllWithin (λ x. test x ≡ true) xs 0 i
    → AllWithin (λ x. test x ≡ false) xs i (length xs) → count_of test xs ≡ i
count_until_position test xs zero le all none = count_none test xs none
count_until_position test [] (suc i) le all none = absurd (omega (arith, le))
count_until_position test (x ∷ xs) (suc i) le all none =
    let here = ap one_if (all 0 x (omega arith) (omega arith)) in
    let later = count_until_position test xs i (omega (arith, le)) (λ k d low high. all (suc k) d (omega arith) (omega (arith, high)))
    (λ k d low high. none (suc k) d (omega (arith, low)) (omega (arith, high))) in omega (arith, here, later)

-- ---- times of spans

sum_of-map : {A B : Type 0} (f : B → ℕ) (g : A → B) (xs : List A) → sum_of f (map g xs) ≡ sum_of (λ x. f (g x)) xs
sum_of-map f g [] = refl
sum_of-map f g (x ∷ xs) = ap (λ n. f (g x) + n) (sum_of-map f g xs)

sum_of-add : {A : Type 0} (f g h : A → ℕ) → ((x : A) → f x ≡ g x + h x) → (xs : List A) → sum_of f xs ≡ sum_of g xs + sum_of h xs
sum_of-add f g h each [] = refl
sum_of-add f g h each (x ∷ xs) = let here = each x in let later = sum_of-add f g h each xs in omega (arith, here, later)

-- A span that began runs, or has ended.
began_splits : (time : ℕ) (span : Span) → one_if (leb span.began time) ≡ one_if (leb (end_of span) time) + one_if (runs_at time span)
began_splits time span = grind (arith, leb_tells)

pub times_split : (time : ℕ) (spans : List Span) (begins ends : List ℕ) → AreSortedTimes (begins_of spans) begins
    → AreSortedTimes (ends_of_spans spans) ends
    → count_by (λ (t : ℕ). leb t time) begins ≡ count_by (λ (t : ℕ). leb t time) ends + count_by (runs_at time) spans
times_split time spans begins ends begun ended =
    let test : ℕ → Bool = λ (t : ℕ). leb t time in
    let begins_count : count_by test begins ≡ sum_of (λ (span : Span). one_if (leb span.began time)) spans =
    sym (count_by_is test begins) ∙ sum_of-permutation (λ t. one_if (test t)) (begins_of spans) begins begun.0
    ∙ sum_of-map (λ t. one_if (test t)) (λ (span : Span). span.began) spans in
    let ends_count : count_by test ends ≡ sum_of (λ (span : Span). one_if (leb (end_of span) time)) spans =
    sym (count_by_is test ends) ∙ sum_of-permutation (λ t. one_if (test t)) (ends_of_spans spans) ends ended.0
    ∙ sum_of-map (λ t. one_if (test t)) end_of spans in
    let both = sum_of-add (λ (span : Span). one_if (leb span.began time)) (λ (span : Span). one_if (leb (end_of span) time))
    (λ (span : Span). one_if (runs_at time span)) (began_splits time) spans in
    let running = count_by_is (runs_at time) spans in
    begins_count ∙ both ∙ ap (λ n. n + sum_of (λ (span : Span). one_if (runs_at time span)) spans) (sym ends_count)
    ∙ ap (λ n. count_by test ends + n) running

-- The count of the times, as it was computed.
pub running_is :
    (time : ℕ) (spans : List Span) (begins sorted_begins read_begins ends sorted_ends read_ends : List ℕ) (begun ended : ℕ)
    → begins ≡ begins_of spans → AreSortedTimes begins sorted_begins → read_begins ≡ sorted_begins
    → begun ≡ count_by (λ (t : ℕ). leb t time) read_begins → ends ≡ ends_of_spans spans → AreSortedTimes ends sorted_ends
    → read_ends ≡ sorted_ends → ended ≡ count_by (λ (t : ℕ). leb t time) read_ends
    → begun ≡ ended + count_by (runs_at time) spans
running_is time spans begins sorted_begins read_begins ends sorted_ends read_ends begun ended begins_are begins_sorted begins_read begun_is
    ends_are ends_sorted ends_read ended_is =
    let test : ℕ → Bool = λ (t : ℕ). leb t time in
    let split =
    times_split time spans sorted_begins sorted_ends
    (subst (λ (times : List ℕ). AreSortedTimes times sorted_begins) begins_are begins_sorted)
    (subst (λ (times : List ℕ). AreSortedTimes times sorted_ends) ends_are ends_sorted) in
    begun_is ∙ ap (count_by test) begins_read ∙ split
    ∙ ap (λ (n : ℕ). n + count_by (runs_at time) spans) (sym (ended_is ∙ ap (count_by test) ends_read))

-- ---- the greatest number

-- The greatest count of the spans before this index.
pub record MostBefore (spans : List Span) (i most : ℕ) : Type 0 where
  pub most_is : max most (greatest (map (count_at spans) (drop i spans))) ≡ most_of spans

pub most_first : (spans : List Span) → MostBefore spans 0 0
most_first spans = record { most_is = zero_max (most_of spans) }
  where
    zero_max : (n : ℕ) → max 0 n ≡ n
    zero_max n = omega arith

pub most_next : (spans : List Span) (i most new_most : ℕ) (d : Span) → i < length spans
    → new_most ≡ max most (count_at spans (get_or spans i d)) → MostBefore spans i most → MostBefore spans (i + 1) new_most
most_next spans i most new_most d below new before =
    let next : suc i ≡ i + 1 = omega arith in
    let left : drop i spans ≡ get_or spans i d ∷ drop (i + 1) spans =
    drop-cons spans i d below ∙ ap (λ (n : ℕ). get_or spans i d ∷ drop n spans) next in
    let all = ap (λ (left : List Span). greatest (map (count_at spans) left)) left in
    record {
      most_is = joins (count_at spans (get_or spans i d)) (greatest (map (count_at spans) (drop (i + 1) spans)))
          (greatest (map (count_at spans) (drop i spans))) new all ∙ before.most_is;
    }
  where
    joins : (here later all : ℕ) → new_most ≡ max most here → all ≡ max here later → max new_most later ≡ max most all
    joins here later all new_is all_is = omega (arith, new_is, all_is)

pub most_all : (spans : List Span) (i most : ℕ) → length spans ≤ i → MostBefore spans i most → most ≡ most_of spans
most_all spans i most done before = max_zero most
    ∙ sym (ap (λ (left : List Span). max most (greatest (map (count_at spans) left))) (drop_all i spans done)) ∙ before.most_is
  where
    max_zero : (n : ℕ) → n ≡ max n 0
    max_zero n = omega arith

pub counts_others : (spans : List Span) (span : Span) → span.began < span.ended → count_at spans span ≡ count_by (runs_at span.began) spans
counts_others spans span runs =
    let itself : runs_at span.began span ≡ true =
    ap (λ b. b && ltb span.began span.ended) (le-leb span.began span.began (omega arith)) ∙ le-leb (suc span.began) span.ended runs in
    let none = ap {B = ℕ} (λ (b : Bool). cond b 0 1) itself in omega (arith, none)

pub counts_itself : (spans : List Span) (span : Span) → span.ended ≤ span.began
    → count_at spans span ≡ count_by (runs_at span.began) spans + 1
counts_itself spans span ended =
    let itself : runs_at span.began span ≡ false =
    ap (λ b. b && ltb span.began span.ended) (le-leb span.began span.began (omega arith))
    ∙ lt-leb (suc span.began) span.ended (omega (arith, ended)) in
    let one = ap {B = ℕ} (λ (b : Bool). cond b 0 1) itself in omega (arith, one)

-- ---- no more run at any time

module _ (P : Span → Type 0) (time : ℕ) where
  -- A span that runs at a time. No other one that runs then began later.
  record Latest (spans : List Span) : Type 0 where
    span : Span
    holds : P span
    runs : runs_at time span ≡ true
    others : AllByRecursion (λ (other : Span). runs_at time other ≡ true → other.began ≤ span.began) spans

  all_earlier : (low high : ℕ) (spans : List Span) → low ≤ high
      → AllByRecursion (λ (other : Span). runs_at time other ≡ true → other.began ≤ low) spans
      → AllByRecursion (λ (other : Span). runs_at time other ≡ true → other.began ≤ high) spans
  all_earlier low high [] le all = tt
  all_earlier low high (span ∷ rest) le all =
      (λ runs. let earlier = all.0 runs in omega (arith, earlier, le), all_earlier low high rest le all.1)

  none_earlier : (began : ℕ) (spans : List Span) → sum_of (λ (span : Span). one_if (runs_at time span)) spans ≡ 0
      → AllByRecursion (λ (other : Span). runs_at time other ≡ true → other.began ≤ began) spans
  none_earlier began [] none = tt
  none_earlier began (span ∷ rest) none =
      (λ runs. absurd (let one = ap one_if runs in omega (arith, one, none)), none_earlier began rest (omega (arith, none)))

  latest : (spans : List Span) → AllByRecursion P spans → (sum_of (λ (span : Span). one_if (runs_at time span)) spans ≡ 0) ⊎ Latest spans
  latest [] all = inl refl
  latest (span ∷ rest) all = by (runs_at time span) refl (latest rest all.1)
    where
      first : runs_at time span ≡ true → AllByRecursion (λ (other : Span). runs_at time other ≡ true → other.began ≤ span.began) rest
          → Latest (span ∷ rest)
      first runs earlier = record { span = span; holds = all.0; runs = runs; others = (λ again. omega arith, earlier) }

      by : (b : Bool) → runs_at time span ≡ b → (sum_of (λ (span : Span). one_if (runs_at time span)) rest ≡ 0) ⊎ Latest rest
          → (sum_of (λ (span : Span). one_if (runs_at time span)) (span ∷ rest) ≡ 0) ⊎ Latest (span ∷ rest)
      by false stopped (inl none) = inl (let zero_here = ap one_if stopped in omega (arith, zero_here, none))
      by false stopped (inr later) = inr
          record { span = later.span; holds = later.holds; runs = later.runs; others = (λ runs. absurd (cc), later.others) }
      by true runs (inl none) = inr record {
        span = span;
        holds = all.0;
        runs = runs;
        others = (λ again. omega arith, none_earlier span.began rest none);
      }
      by true runs (inr later) = later_of (leb_tells span.began later.span.began)
        where
          later_of : ((leb span.began later.span.began ≡ true) × (span.began ≤ later.span.began)) ⊎
              ((leb span.began later.span.began ≡ false) × (later.span.began < span.began))
              → (sum_of (λ (span : Span). one_if (runs_at time span)) (span ∷ rest) ≡ 0) ⊎ Latest (span ∷ rest)
          later_of (inl before) = inr record {
            span = later.span;
            holds = later.holds;
            runs = later.runs;
            others = (λ again. before.1, later.others);
          }
          later_of (inr after) =
              inr record {
                span = span;
                holds = all.0;
                runs = runs;
                others = (
                  λ again. omega arith,
                  all_earlier later.span.began span.began rest
                      (let less = after.1 in omega (arith, less)) later.others,
                );
              }

still_runs : (time began : ℕ) (span : Span) → began ≤ time → (runs_at time span ≡ true → span.began ≤ began) → (b : Bool)
    → runs_at time span ≡ b → one_if b ≤ one_if (runs_at began span)
still_runs time began span le earlier false stopped = omega arith
still_runs time began span le earlier true runs =
    let less : time < span.ended = ltb-true _ _ (and_right (leb span.began time) _ runs) in
    let itself : runs_at began span ≡ true =
    ap (λ b. b && ltb began span.ended) (le-leb span.began began (earlier runs))
    ∙ le-leb (suc began) span.ended (omega (arith, le, less)) in
    let one = ap one_if itself in omega (arith, one)

fewer_run : (time began : ℕ) (spans : List Span) → began ≤ time
    → AllByRecursion (λ (other : Span). runs_at time other ≡ true → other.began ≤ began) spans
    → sum_of (λ (span : Span). one_if (runs_at time span)) spans ≤ sum_of (λ (span : Span). one_if (runs_at began span)) spans
fewer_run time began [] le earlier = omega arith
fewer_run time began (span ∷ rest) le earlier =
    let here = still_runs time began span le earlier.0 (runs_at time span) refl in let later = fewer_run time began rest le earlier.1 in
    omega (arith, here, later)

pub all_below : (f : Span → ℕ) (spans : List Span) (most : ℕ) → greatest (map f spans) ≤ most
    → AllByRecursion (λ (span : Span). f span ≤ most) spans
all_below f [] most le = tt
all_below f (span ∷ rest) most le = (omega (arith, le), all_below f rest most (omega (arith, le)))

pub at_most : (spans : List Span) (time : ℕ) → count_by (runs_at time) spans ≤ most_of spans
at_most spans time = by (latest P time spans (all_below (count_at spans) spans (most_of spans) (omega arith)))
  where
    P : Span → Type 0
    P span = count_at spans span ≤ most_of spans

    by : (sum_of (λ (span : Span). one_if (runs_at time span)) spans ≡ 0) ⊎ Latest P time spans
        → count_by (runs_at time) spans ≤ most_of spans
    by (inl none) = let count = count_by_is (runs_at time) spans in omega (arith, count, none)
    by (inr last) =
        let began = last.span.began in
        let le : began ≤ time = leb-true _ _ (and_left _ (ltb time last.span.ended) last.runs) in
        let fewer = fewer_run time began spans le last.others in
        let count = count_by_is (runs_at time) spans in
        let count_then = count_by_is (runs_at began) spans in
        let bound : count_at spans last.span ≤ most_of spans = last.holds in
        omega (arith, fewer, count, count_then, bound)
