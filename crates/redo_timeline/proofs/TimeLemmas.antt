-- Sums over the milliseconds of a window.
use Rattle.std.proofs.Common.{◌≡◌, ℕ, zero, suc, ◌+◌, ◌-◌, ◌<◌, ◌≤◌, ◌⊎◌, inl, inr, Bool, true, false, cond, List, [], ◌∷◌, refl, sym, ap, ◌∙◌, arith}
use Rattle.std.proofs.lemmas.Bool.{cases_lt}
use Rattle.redo_timeline.specs.Alone.{time_with}
use Rattle.redo_timeline.proofs.CountLemmas.{one_if}
use Rattle.redo_timeline.proofs.OrderLemmas.{sum_of}

-- The sum of f over the given number of milliseconds, from this one on.
abbrev pub time_of : (ℕ → ℕ) → ℕ → ℕ → ℕ
time_of f began zero = 0
time_of f began (suc width) = f began + time_of f (began + 1) width

pub time_with_is : (holds : ℕ → Bool) (began width : ℕ)
    → time_with holds began width ≡ time_of (λ (time : ℕ). one_if (holds time)) began width
time_with_is holds began zero = refl
time_with_is holds began (suc width) = ap (λ (n : ℕ). one_if (holds began) + n) (time_with_is holds (began + 1) width)

-- ---- the same sums

pub time_of-same : (f g : ℕ → ℕ) (began width : ℕ) → ((time : ℕ) → began ≤ time → time < began + width → f time ≡ g time)
    → time_of f began width ≡ time_of g began width
time_of-same f g began zero same = refl
time_of-same f g began (suc width) same =
    let here : f began ≡ g began = same began (omega arith) (omega arith) in
    let later : time_of f (began + 1) width ≡ time_of g (began + 1) width =
    time_of-same f g (began + 1) width (λ time from until. same time (omega (arith, from)) (omega (arith, until))) in
    omega (arith, here, later)

pub time_with-same : (p q : ℕ → Bool) (began width : ℕ) → ((time : ℕ) → began ≤ time → time < began + width → p time ≡ q time)
    → time_with p began width ≡ time_with q began width
time_with-same p q began width same =
    time_with_is p began width
    ∙ time_of-same (λ (time : ℕ). one_if (p time)) (λ (time : ℕ). one_if (q time)) began width
    (λ time from until. ap one_if (same time from until))
    ∙ sym (time_with_is q began width)

-- ---- constants

pub time_of-none : (began width : ℕ) → time_of (λ (time : ℕ). 0) began width ≡ 0
time_of-none began zero = refl
time_of-none began (suc width) = let later = time_of-none (began + 1) width in omega (arith, later)

pub time_of-one : (began width : ℕ) → time_of (λ (time : ℕ). 1) began width ≡ width
time_of-one began zero = refl
time_of-one began (suc width) = let later = time_of-one (began + 1) width in omega (arith, later)

pub time_with-constant : (b : Bool) (began width : ℕ) → time_with (λ (time : ℕ). b) began width ≡ cond b width 0
time_with-constant true began width = time_with_is (λ (time : ℕ). true) began width ∙ time_of-one began width
time_with-constant false began width = time_with_is (λ (time : ℕ). false) began width ∙ time_of-none began width

one_at_most : (b : Bool) → one_if b ≤ 1
one_at_most true = omega arith
one_at_most false = omega arith

pub time_with-bounded : (holds : ℕ → Bool) (began width : ℕ) → time_with holds began width ≤ width
time_with-bounded holds began zero = omega arith
time_with-bounded holds began (suc width) =
    let here = one_at_most (holds began) in let later = time_with-bounded holds (began + 1) width in omega (arith, here, later)

-- ---- parts of a window

pub time_of-split : (f : ℕ → ℕ) (began first second : ℕ)
    → time_of f began (first + second) ≡ time_of f began first + time_of f (began + first) second
time_of-split f began zero second =
    let all : zero + second ≡ second = omega arith in
    let start : began ≡ began + zero = omega arith in
    let left : time_of f began (zero + second) ≡ time_of f began second = ap (time_of f began) all in
    let right : time_of f began second ≡ time_of f (began + zero) second = ap (λ (time : ℕ). time_of f time second) start in
    omega (arith, left, right)
time_of-split f began (suc first) second =
    let all : suc first + second ≡ suc (first + second) = omega arith in
    let start : began + 1 + first ≡ began + suc first = omega arith in
    let left : time_of f began (suc first + second) ≡ f began + time_of f (began + 1) (first + second) = ap (time_of f began) all in
    let more : time_of f (began + 1) (first + second) ≡ time_of f (began + 1) first + time_of f (began + 1 + first) second =
    time_of-split f (began + 1) first second in
    let right : time_of f (began + 1 + first) second ≡ time_of f (began + suc first) second =
    ap (λ (time : ℕ). time_of f time second) start in omega (arith, left, more, right)

pub time_with-split : (holds : ℕ → Bool) (began first second : ℕ)
    → time_with holds began (first + second) ≡ time_with holds began first + time_with holds (began + first) second
time_with-split holds began first second =
    let f : ℕ → ℕ = λ (time : ℕ). one_if (holds time) in
    let all = time_with_is holds began (first + second) in
    let split = time_of-split f began first second in
    let left = time_with_is holds began first in
    let right = time_with_is holds (began + first) second in
    omega (arith, all, split, left, right)

-- A sum over a window is the sum over a part of it, if f is 0 outside that part.
module _ (f : ℕ → ℕ) (began ended : ℕ) (early : (time : ℕ) → time < began → f time ≡ 0)
    (late : (time : ℕ) → ended ≤ time → f time ≡ 0) where
  none_in : (low width : ℕ) → ((time : ℕ) → low ≤ time → time < low + width → f time ≡ 0) → time_of f low width ≡ 0
  none_in low width none = time_of-same f (λ (time : ℕ). 0) low width none ∙ time_of-none low width

  part : (low width : ℕ) → low ≤ began → began < ended → ended ≤ low + width → time_of f low width ≡ time_of f began (ended - began)
  part low width from some until =
      let before : ℕ = began - low in
      let within : ℕ = ended - began in
      let after : ℕ = low + width - ended in
      let all : width ≡ before + (within + after) = omega (arith, from, some, until) in
      let start : low + before ≡ began = omega (arith, from) in
      let end : began + within ≡ ended = omega (arith, some) in
      let whole : time_of f low width ≡ time_of f low (before + (within + after)) = ap (time_of f low) all in
      let first : time_of f low (before + (within + after)) ≡ time_of f low before + time_of f (low + before) (within + after) =
      time_of-split f low before (within + after) in
      let moved : time_of f (low + before) (within + after) ≡ time_of f began (within + after) =
      ap (λ (time : ℕ). time_of f time (within + after)) start in
      let second : time_of f began (within + after) ≡ time_of f began within + time_of f (began + within) after =
      time_of-split f began within after in
      let none_before : time_of f low before ≡ 0 = none_in low before (λ time low_is high. early time (omega (arith, high, start))) in
      let none_after : time_of f (began + within) after ≡ 0 =
      none_in (began + within) after (λ time low_is high. late time (omega (arith, low_is, end))) in
      whole ∙ first ∙ ap (λ (n : ℕ). n + time_of f (low + before) (within + after)) none_before
      ∙ zero_first (time_of f (low + before) (within + after))
      ∙ moved ∙ second ∙ ap (λ (n : ℕ). time_of f began within + n) none_after ∙ zero_last (time_of f began within)
    where
      zero_first : (n : ℕ) → 0 + n ≡ n
      zero_first n = omega arith

      zero_last : (n : ℕ) → n + 0 ≡ n
      zero_last n = omega arith

  no_part : (low width : ℕ) → ended ≤ began → time_of f low width ≡ time_of f began (ended - began)
  no_part low width empty =
      let none : ended - began ≡ 0 = omega (arith, empty) in
      none_in low width (λ time from until. at time (cases_lt time began)) ∙ sym (ap (time_of f began) none)
    where
      at : (time : ℕ) → (time < began) ⊎ (began ≤ time) → f time ≡ 0
      at time (inl before) = early time before
      at time (inr after) = late time (omega (arith, empty, after))

  pub time_of-part : (low width : ℕ) → low ≤ began → ended ≤ low + width → time_of f low width ≡ time_of f began (ended - began)
  time_of-part low width from until = by (cases_lt began ended)
    where
      by : (began < ended) ⊎ (ended ≤ began) → time_of f low width ≡ time_of f began (ended - began)
      by (inl some) = part low width from some until
      by (inr empty) = no_part low width empty

-- ---- sums of sums

time_of-add : (f g : ℕ → ℕ) (began width : ℕ)
    → time_of (λ (time : ℕ). f time + g time) began width ≡ time_of f began width + time_of g began width
time_of-add f g began zero = refl
time_of-add f g began (suc width) = let later = time_of-add f g (began + 1) width in omega (arith, later)

pub sum_of-time : {K : Type 0} (f : K → ℕ → ℕ) (began width : ℕ) (xs : List K)
    → sum_of (λ (x : K). time_of (f x) began width) xs ≡ time_of (λ (time : ℕ). sum_of (λ (x : K). f x time) xs) began width
sum_of-time f began width [] = sym (time_of-none began width)
sum_of-time f began width (x ∷ xs) =
    ap (λ (n : ℕ). time_of (f x) began width + n) (sum_of-time f began width xs)
    ∙ sym (time_of-add (f x) (λ (time : ℕ). sum_of (λ x. f x time) xs) began width)
