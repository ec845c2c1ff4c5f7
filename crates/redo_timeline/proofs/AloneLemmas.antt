-- How long spans run alone, over all spans.
use Rattle.std.proofs.Common.{◌≡◌, ℕ, zero, suc, ◌+◌, ◌-◌, ◌<◌, ◌≤◌, ◌⊎◌, inl, inr, leb, ltb, ◌==◌, Bool, true, false, cond, List, [], ◌∷◌, ◌++◌, length, map, sum, refl, sym, ap, ◌∙◌, arith}
use Rattle.std.specs.Prelude.{◌&&◌}
use Rattle.std.specs.List.{range_with_len}
use Rattle.std.proofs.lemmas.Bool.{and_right, cases_lt, eq-eqb, eqb-true, le-leb, le-ltb, lt-leb, lt-ltb, ne_eqb}
use Rattle.std.proofs.lemmas.List.Recursion.{is_sum_by}
use Rattle.std.proofs.lemmas.List.Sums.{count_by-le-length, sum-map}
use Rattle.redo_timeline.specs.declared.span.Span.{Span}
use Rattle.redo_timeline.specs.declared.span.Window.{Window}
use Rattle.redo_timeline.specs.Alone.{alone, running_at, time_running, times_alone}
use Rattle.redo_timeline.specs.Laws.{AreInWindow, times_running}
use Rattle.redo_timeline.specs.Parallelism.{runs_at}
use Rattle.redo_timeline.proofs.CountLemmas.{count_by_is, count_of, one_if}
use Rattle.redo_timeline.proofs.NeedLemmas.{sum_of-append}
use Rattle.redo_timeline.proofs.OrderLemmas.{sum_of}
use Rattle.redo_timeline.proofs.TimeLemmas.{sum_of-time, time_of, time_of-one, time_of-part, time_of-same, time_with-bounded, time_with-same, time_with_is}

-- ---- sums of lists

sum_is : {K : Type 0} (f : K → ℕ) (xs : List K) → sum (map f xs) ≡ sum_of f xs
sum_is f xs = sum-map f xs ∙ sym (is_sum_by (sum_of f) f refl (λ x xs. refl) xs)

sum_of-same : {K : Type 0} (f g : K → ℕ) → ((x : K) → f x ≡ g x) → (xs : List K) → sum_of f xs ≡ sum_of g xs
sum_of-same f g same [] = refl
sum_of-same f g same (x ∷ xs) = let here = same x in let later = sum_of-same f g same xs in omega (arith, here, later)

sum_of-none : {K : Type 0} (xs : List K) → sum_of (λ (x : K). 0) xs ≡ 0
sum_of-none [] = refl
sum_of-none (x ∷ xs) = let later = sum_of-none xs in omega (arith, later)

-- ---- one number of spans runs at each time

-- 1 if the given number of spans run at a time, otherwise 0.
abbrev exactly : List Span → ℕ → ℕ → ℕ
exactly spans count time = one_if (running_at spans time == count)

none_equal : (n low many : ℕ) → n < low → sum_of (λ (k : ℕ). one_if (n == k)) (range_with_len low many) ≡ 0
none_equal n low zero less = refl
none_equal n low (suc many) less =
    let here : one_if (n == low) ≡ 0 = ap one_if (ne_eqb n low (λ same. omega (arith, less, same))) in
    let later = none_equal n (low + 1) many (omega (arith, less)) in omega (arith, here, later)

one_equal : (n low many : ℕ) → low ≤ n → n < low + many → sum_of (λ (k : ℕ). one_if (n == k)) (range_with_len low many) ≡ 1
one_equal n low zero from until = absurd (omega (arith, from, until))
one_equal n low (suc many) from until = by (cases_lt low n) (λ more. one_equal n (low + 1) many more (omega (arith, until)))
  where
    by : (low < n) ⊎ (n ≤ low) → (low + 1 ≤ n → sum_of (λ (k : ℕ). one_if (n == k)) (range_with_len (low + 1) many) ≡ 1)
        → sum_of (λ (k : ℕ). one_if (n == k)) (range_with_len low (suc many)) ≡ 1
    by (inl more) later =
        let here : one_if (n == low) ≡ 0 = ap one_if (ne_eqb n low (λ same. omega (arith, more, same))) in
        let rest = later (omega (arith, more)) in omega (arith, here, rest)
    by (inr no_more) later =
        let here : one_if (n == low) ≡ 1 = ap one_if (eq-eqb n low (omega (arith, from, no_more))) in
        let rest = none_equal n (low + 1) many (omega (arith, no_more)) in omega (arith, here, rest)

pub add_up : (window : Window) (spans : List Span) → sum (times_running window spans) ≡ window.width
add_up window spans =
    let began = window.began in
    let width = window.width in
    let counts : List ℕ = range_with_len 0 (length spans + 1) in
    sum_is (λ (count : ℕ). time_running spans count began width) counts
    ∙ sum_of-same (λ (count : ℕ). time_running spans count began width) (λ (count : ℕ). time_of (exactly spans count) began width)
    (λ count. time_with_is (λ (time : ℕ). running_at spans time == count) began width) counts
    ∙ sum_of-time (exactly spans) began width counts
    ∙ time_of-same (λ (time : ℕ). sum_of (λ (count : ℕ). exactly spans count time) counts) (λ (time : ℕ). 1) began width
    (λ time from until. let most = count_by-le-length (runs_at time) spans in
    one_equal (running_at spans time) 0 (length spans + 1) (omega arith) (omega (arith, most)))
    ∙ time_of-one began width

-- ---- a span within a window

-- Whether a span runs at a time, and exactly one of the spans does, as a number.
abbrev own : List Span → Span → ℕ → ℕ
own spans span time = one_if ((running_at spans time == 1) && runs_at time span)

pub runs_within : (span : Span) (time : ℕ) → span.began ≤ time → time < span.began + (span.ended - span.began) → runs_at time span ≡ true
runs_within span time from until =
    ap (λ (b : Bool). b && ltb time span.ended) (le-leb span.began time from) ∙ lt-ltb time span.ended (omega (arith, from, until))

and_true : (b : Bool) → b ≡ (b && true)
and_true true = refl
and_true false = refl

alone_in : (window : Window) (spans : List Span) (span : Span) → (window.began ≤ span.began) × (span.ended ≤ window.began + window.width)
    → alone spans span ≡ time_of (own spans span) window.began window.width
alone_in window spans span within =
    let began = span.began in
    let width = span.ended - span.began in
    time_with_is (λ (time : ℕ). running_at spans time == 1) began width
    ∙ time_of-same (exactly spans 1) (own spans span) began width
    (λ time from until. ap one_if (and_true (running_at spans time == 1)
    ∙ ap (λ (b : Bool). (running_at spans time == 1) && b) (sym (runs_within span time from until))))
    ∙ sym (time_of-part (own spans span) began span.ended early late window.began window.width within.0 within.1)
  where
    early : (time : ℕ) → time < span.began → own spans span time ≡ 0
    early time before =
        ap one_if (and_right (running_at spans time == 1) (runs_at time span)
        (ap (λ (b : Bool). b && ltb time span.ended) (lt-leb span.began time before)))

    late : (time : ℕ) → span.ended ≤ time → own spans span time ≡ 0
    late time after =
        ap one_if (and_right (running_at spans time == 1) (runs_at time span)
        (and_right (leb span.began time) (ltb time span.ended) (le-ltb time span.ended after)))

each_alone : (window : Window) (all spans : List Span) → AreInWindow window spans
    → sum_of (alone all) spans ≡ sum_of (λ (span : Span). time_of (own all span) window.began window.width) spans
each_alone window all [] within = refl
each_alone window all (span ∷ rest) within =
    let here = alone_in window all span within.0 in let later = each_alone window all rest within.1 in omega (arith, here, later)

-- ---- the sum of the times alone

owned : (time : ℕ) (b : Bool) (spans : List Span)
    → sum_of (λ (span : Span). one_if (b && runs_at time span)) spans ≡ cond b (count_of (runs_at time) spans) 0
owned time true spans = refl
owned time false spans = sum_of-none spans

one_or_none : (n : ℕ) (b : Bool) → (n == 1) ≡ b → cond b n 0 ≡ one_if b
one_or_none n true is = eqb-true n 1 is
one_or_none n false is = refl

only_one : (spans : List Span) (time : ℕ) → sum_of (λ (span : Span). own spans span time) spans ≡ exactly spans 1 time
only_one spans time =
    let b : Bool = running_at spans time == 1 in
    owned time b spans ∙ ap (λ (n : ℕ). cond b n 0) (count_by_is (runs_at time) spans)
    ∙ one_or_none (running_at spans time) b refl

pub alone_add_up : (window : Window) (spans : List Span) → AreInWindow window spans
    → sum (times_alone spans) ≡ time_running spans 1 window.began window.width
alone_add_up window spans within =
    sum_is (alone spans) spans ∙ each_alone window spans spans within
    ∙ sum_of-time (own spans) window.began window.width spans
    ∙ time_of-same (λ (time : ℕ). sum_of (λ (span : Span). own spans span time) spans) (exactly spans 1) window.began window.width
    (λ time from until. only_one spans time)
    ∙ sym (time_with_is (λ (time : ℕ). running_at spans time == 1) window.began window.width)

-- ---- the other spans

equal_with_one : (n : ℕ) → ((n + 1) == 1) ≡ (n == 0)
equal_with_one n = by (cases_lt 0 n)
  where
    by : (0 < n) ⊎ (n ≤ 0) → ((n + 1) == 1) ≡ (n == 0)
    by (inl some) = ne_eqb (n + 1) 1 (λ same. omega (arith, some, same)) ∙ sym (ne_eqb n 0 (λ same. omega (arith, some, same)))
    by (inr none) = eq-eqb (n + 1) 1 (omega (arith, none)) ∙ sym (eq-eqb n 0 (omega (arith, none)))

pub without_others : (before after : List Span) (span : Span)
    → alone (before ++ span ∷ after) span ≡ time_running (before ++ after) 0 span.began (span.ended - span.began)
without_others before after span =
    time_with-same (λ (time : ℕ). running_at (before ++ span ∷ after) time == 1) (λ (time : ℕ). running_at (before ++ after) time == 0)
    span.began (span.ended - span.began)
    (λ time from until. ap (λ (n : ℕ). n == 1) (with_itself time (runs_within span time from until))
    ∙ equal_with_one (running_at (before ++ after) time))
  where
    with_itself : (time : ℕ) → runs_at time span ≡ true → running_at (before ++ span ∷ after) time ≡ running_at (before ++ after) time + 1
    with_itself time runs =
        let all = count_by_is (runs_at time) (before ++ span ∷ after) in
        let others = count_by_is (runs_at time) (before ++ after) in
        let split_all = sum_of-append (λ (other : Span). one_if (runs_at time other)) before (span ∷ after) in
        let split_others = sum_of-append (λ (other : Span). one_if (runs_at time other)) before after in
        let itself = ap one_if runs in omega (arith, all, others, split_all, split_others, itself)

pub is_bounded : (spans : List Span) (span : Span) → alone spans span ≤ span.ended - span.began
is_bounded spans span = time_with-bounded (λ (time : ℕ). running_at spans time == 1) span.began (span.ended - span.began)
