-- Properties of sorting.
use Rattle.std.proofs.Common.{◌≡◌, ℕ, zero, suc, ◌+◌, ◌<◌, Bool, true, false, cond, List, [], ◌∷◌, length, get_or, refl, sym, ap, ◌∙◌, subst, arith}
use Rattle.std.specs.declared.cmp.Ordering.{Ordering}
use Rattle.std.specs.declared.cmp.Ordering.TheVariants.{Less, Equal, Greater}
use Rattle.std.specs.Cmp.{IsTotalOrder, bool_cmp_total}
use Rattle.std.specs.List.{AllByRecursion}
use Rattle.std.specs.List.Sorted.{IsPermutation, IsSorted}
use Rattle.std.specs.Ordering.{bool_cmp, is_eq, is_gt, is_lt, nat_cmp, ordering_reverse}
use Rattle.std.proofs.lemmas.Cmp.{nat_cmp_total, on_total, then_total, tied_itself, upto}
use Rattle.std.proofs.lemmas.List.Sorted.{IsPermutation-cons, IsPermutation-middle, IsPermutation-refl, IsPermutation-trans, sum_by-IsPermutation}
use Rattle.std.proofs.lemmas.List.Recursion.{is_sum_by}
use Rattle.std.proofs.lemmas.Map.Lookups.{CmpEqualImpliesEq, exact_pairs, exact_unsigned}
use Rattle.redo_timeline.specs.declared.span.Span.{Span}
use Rattle.redo_timeline.specs.Order.{in_order, insert_sorted, sort, span_cmp}

-- The sum of f over a list, from the right.
abbrev pub sum_of : {K : Type 0} → (K → ℕ) → List K → ℕ
sum_of f [] = 0
sum_of f (x ∷ xs) = f x + sum_of f xs

pub sum_of-permutation : {K : Type 0} (f : K → ℕ) (xs ys : List K) → IsPermutation xs ys → sum_of f ys ≡ sum_of f xs
sum_of-permutation f xs ys moved = is_sum_by (sum_of f) f refl (λ x xs. refl) ys ∙ sum_by-IsPermutation f xs ys moved
    ∙ sym (is_sum_by (sum_of f) f refl (λ x xs. refl) xs)

module _ {K : Type 0} (cmp : K → K → Ordering) where
  -- No item is greater than a later one.
  abbrev pub IsRising : List K → Type 0
  IsRising [] = Unit {0}
  IsRising (x ∷ xs) = AllByRecursion (λ y. is_gt (cmp x y) ≡ false) xs × IsRising xs

  -- ---- the same items

  insert-sum_of : (f : K → ℕ) (x : K) (xs : List K) → sum_of f (insert_sorted cmp x xs) ≡ f x + sum_of f xs
  insert-sum_of f x [] = refl
  insert-sum_of f x (y ∷ ys) = by (is_gt (cmp x y)) (insert-sum_of f x ys)
    where
      by : (b : Bool) → sum_of f (insert_sorted cmp x ys) ≡ f x + sum_of f ys
          → sum_of f (cond b (y ∷ insert_sorted cmp x ys) (x ∷ y ∷ ys)) ≡ f x + sum_of f (y ∷ ys)
      by true more = ap (λ n. f y + n) more ∙ omega arith
      by false more = refl

  sort-sum_of : (f : K → ℕ) (xs : List K) → sum_of f (sort cmp xs) ≡ sum_of f xs
  sort-sum_of f [] = refl
  sort-sum_of f (x ∷ xs) = insert-sum_of f x (sort cmp xs) ∙ ap (λ n. f x + n) (sort-sum_of f xs)

  insert-permutation : (x : K) (xs : List K) → IsPermutation (x ∷ xs) (insert_sorted cmp x xs)
  insert-permutation x [] = IsPermutation-refl (x ∷ [])
  insert-permutation x (y ∷ ys) = by (is_gt (cmp x y)) (insert-permutation x ys)
    where
      by : (b : Bool) → IsPermutation (x ∷ ys) (insert_sorted cmp x ys)
          → IsPermutation (x ∷ y ∷ ys) (cond b (y ∷ insert_sorted cmp x ys) (x ∷ y ∷ ys))
      by true more = IsPermutation-trans _ _ _ (IsPermutation-middle (x ∷ []) y ys) (IsPermutation-cons y _ _ more)
      by false more = IsPermutation-refl (x ∷ y ∷ ys)

  pub sort-permutation : (xs : List K) → IsPermutation xs (sort cmp xs)
  sort-permutation [] = IsPermutation-refl []
  sort-permutation (x ∷ xs) = IsPermutation-trans _ _ _ (IsPermutation-cons x _ _ (sort-permutation xs))
      (insert-permutation x (sort cmp xs))

  -- ---- a sorted list stays

  insert-first : (x : K) (xs : List K) → ((d : K) → 1 < length (x ∷ xs) → is_gt (cmp x (get_or xs 0 d)) ≡ false)
      → insert_sorted cmp x xs ≡ x ∷ xs
  insert-first x [] le = refl
  insert-first x (y ∷ ys) le = ap (λ b. cond b (y ∷ insert_sorted cmp x ys) (x ∷ y ∷ ys)) (le y (omega arith))

  module _ (total : IsTotalOrder cmp) where
    gt_of_lt : (x y : K) → is_lt (cmp y x) ≡ false → is_gt (cmp x y) ≡ false
    gt_of_lt x y h = ap is_gt (total.antisymm x y) ∙ by (cmp y x) h
      where
        by : (o : Ordering) → is_lt o ≡ false → is_gt (ordering_reverse o) ≡ false
        by Less h = h
        by Equal h = refl
        by Greater h = refl

    not_both : (x y : K) → is_gt (cmp x y) ≡ true → is_gt (cmp y x) ≡ false
    not_both x y h = ap is_gt (total.antisymm y x) ∙ by (cmp x y) h
      where
        by : (o : Ordering) → is_gt o ≡ true → is_gt (ordering_reverse o) ≡ false
        by Less h = absurd (cc)
        by Equal h = absurd (cc)
        by Greater h = refl

    pub sort-sorted : (xs : List K) → IsSorted cmp xs → sort cmp xs ≡ xs
    sort-sorted [] up = refl
    sort-sorted (x ∷ xs) up =
        ap (insert_sorted cmp x) (sort-sorted xs
        (λ k d low high. let e : suc k + 1 ≡ suc (k + 1) = omega arith in
        subst (λ (n : ℕ). is_lt (cmp (get_or (x ∷ xs) n d) (get_or xs k d)) ≡ false) e (up (suc k) d (omega arith) (omega (arith, high)))))
        ∙ insert-first x xs (λ d some. gt_of_lt x (get_or xs 0 d) (up 0 d (omega arith) (omega (arith, some))))

    -- ---- a sorted list rises

    all_above : (x y : K) → is_gt (cmp x y) ≡ false → (ys : List K) → AllByRecursion (λ z. is_gt (cmp y z) ≡ false) ys
        → AllByRecursion (λ z. is_gt (cmp x z) ≡ false) ys
    all_above x y le [] all = all
    all_above x y le (z ∷ zs) all = (upto total x y z le all.0, all_above x y le zs all.1)

    insert-all : (P : K → Type 0) (x : K) (xs : List K) → P x → AllByRecursion P xs → AllByRecursion P (insert_sorted cmp x xs)
    insert-all P x [] here all = (here, tt)
    insert-all P x (y ∷ ys) here all = by (is_gt (cmp x y)) (insert-all P x ys here all.1)
      where
        by : (b : Bool) → AllByRecursion P (insert_sorted cmp x ys) → AllByRecursion P (cond b (y ∷ insert_sorted cmp x ys) (x ∷ y ∷ ys))
        by true more = (all.0, more)
        by false more = (here, all)

    insert-rising : (x : K) (xs : List K) → IsRising xs → IsRising (insert_sorted cmp x xs)
    insert-rising x [] up = (tt, tt)
    insert-rising x (y ∷ ys) up = by (is_gt (cmp x y)) refl (insert-rising x ys up.1)
      where
        by : (b : Bool) → is_gt (cmp x y) ≡ b → IsRising (insert_sorted cmp x ys)
            → IsRising (cond b (y ∷ insert_sorted cmp x ys) (x ∷ y ∷ ys))
        by true gt more = (insert-all (λ z. is_gt (cmp y z) ≡ false) x ys (not_both x y gt) up.0, more)
        by false le more = ((le, all_above x y le ys up.0), up)

    pub sort-rising : (xs : List K) → IsRising (sort cmp xs)
    sort-rising [] = tt
    sort-rising (x ∷ xs) = insert-rising x (sort cmp xs) (sort-rising xs)

    lt_of_gt : (x y : K) → is_gt (cmp x y) ≡ false → is_lt (cmp y x) ≡ false
    lt_of_gt x y h = ap is_lt (total.antisymm y x) ∙ by (cmp x y) h
      where
        by : (o : Ordering) → is_gt o ≡ false → is_lt (ordering_reverse o) ≡ false
        by Less h = refl
        by Equal h = refl
        by Greater h = absurd (cc)

    rising-adjacent : (xs : List K) → IsRising xs → (k : ℕ) (d : K) → k + 1 < length xs
        → is_lt (cmp (get_or xs (k + 1) d) (get_or xs k d)) ≡ false
    rising-adjacent [] up k d high = absurd (omega (arith, high))
    rising-adjacent (x ∷ []) up k d high = absurd (omega (arith, high))
    rising-adjacent (x ∷ y ∷ ys) up zero d high = lt_of_gt x y up.0.0
    rising-adjacent (x ∷ y ∷ ys) up (suc k) d high =
        let e : suc (k + 1) ≡ suc k + 1 = omega arith in
        subst (λ (n : ℕ). is_lt (cmp (get_or (x ∷ y ∷ ys) n d) (get_or (y ∷ ys) k d)) ≡ false) e
        (rising-adjacent (y ∷ ys) up.1 k d (omega (arith, high)))

    pub sort-is_sorted : (xs : List K) → IsSorted cmp (sort cmp xs)
    sort-is_sorted xs = λ k d low high. rising-adjacent (sort cmp xs) (sort-rising xs) k d high

    -- ---- how often each item occurs determines a list that rises

    abbrev one_if : Bool → ℕ
    one_if true = 1
    one_if false = 0

    abbrev count_of : K → List K → ℕ
    count_of x xs = sum_of (λ y. one_if (is_eq (cmp x y))) xs

    counts_itself : (x : K) (xs : List K) → 0 < count_of x (x ∷ xs)
    counts_itself x xs = let here : one_if (is_eq (cmp x x)) ≡ 1 = ap (λ (o : Ordering). one_if (is_eq o)) (tied_itself total x) in
        rw here (omega arith)

    equal_le : (x y : K) → is_eq (cmp x y) ≡ true → is_gt (cmp y x) ≡ false
    equal_le x y same = ap is_gt (total.antisymm y x) ∙ by (cmp x y) same
      where
        by : (o : Ordering) → is_eq o ≡ true → is_gt (ordering_reverse o) ≡ false
        by Less h = absurd (cc)
        by Equal h = refl
        by Greater h = absurd (cc)

    some_later : (b : Bool) (n : ℕ) → 0 < one_if b + n → b ≡ false → 0 < n
    some_later b n some differ = let none = ap one_if differ in omega (arith, some, none)

    -- An item that is at most each one of a list is at most each one that occurs there.
    least : (x y : K) (ys : List K) → AllByRecursion (λ z. is_gt (cmp y z) ≡ false) ys → 0 < count_of x ys → is_gt (cmp y x) ≡ false
    least x y [] all some = absurd (omega (arith, some))
    least x y (z ∷ zs) all some = by (is_eq (cmp x z)) refl (λ later. least x y zs all.1 later)
      where
        by : (b : Bool) → is_eq (cmp x z) ≡ b → (0 < count_of x zs → is_gt (cmp y x) ≡ false) → is_gt (cmp y x) ≡ false
        by true same more = upto total y z x all.0 (equal_le x z same)
        by false differ more = more (some_later (is_eq (cmp x z)) (count_of x zs) some differ)

    -- The first item is at most each one that occurs.
    first_least : (x y : K) (ys : List K) → AllByRecursion (λ z. is_gt (cmp y z) ≡ false) ys → 0 < count_of x (y ∷ ys)
        → is_gt (cmp y x) ≡ false
    first_least x y ys all some = by (is_eq (cmp x y)) refl
      where
        by : (b : Bool) → is_eq (cmp x y) ≡ b → is_gt (cmp y x) ≡ false
        by true same = equal_le x y same
        by false differ = least x y ys all (some_later (is_eq (cmp x y)) (count_of x ys) some differ)

    tail_counts : (a b m n : ℕ) → a ≡ b → a + m ≡ b + n → m ≡ n
    tail_counts a b m n here all = omega (arith, here, all)

    some_counts : (n m : ℕ) → 0 < n → n ≡ m → 0 < m
    some_counts n m some same = omega (arith, some, same)

    module _ (exact : CmpEqualImpliesEq cmp) where
      same_item : (x y : K) → is_gt (cmp x y) ≡ false → is_gt (cmp y x) ≡ false → x ≡ y
      same_item x y le ge = exact x y (by (cmp x y) le (ap is_gt (sym (total.antisymm y x)) ∙ ge))
        where
          by : (o : Ordering) → is_gt o ≡ false → is_gt (ordering_reverse o) ≡ false → o ≡ Equal
          by Less le ge = absurd (cc)
          by Equal le ge = refl
          by Greater le ge = absurd (cc)

      rising_same : (xs ys : List K) → IsRising xs → IsRising ys → ((x : K) → count_of x xs ≡ count_of x ys) → xs ≡ ys
      rising_same [] [] up down same = refl
      rising_same [] (y ∷ ys) up down same =
          absurd (let none = some_counts (count_of y (y ∷ ys)) 0 (counts_itself y ys) (sym (same y)) in omega (arith, none))
      rising_same (x ∷ xs) [] up down same =
          absurd (let none = some_counts (count_of x (x ∷ xs)) 0 (counts_itself x xs) (same x) in omega (arith, none))
      rising_same (x ∷ xs) (y ∷ ys) up down same =
          let xy : x ≡ y =
          same_item x y (first_least y x xs up.0 (some_counts _ _ (counts_itself y ys) (sym (same y))))
          (first_least x y ys down.0 (some_counts _ _ (counts_itself x xs) (same x))) in
          let rest : xs ≡ ys = rising_same xs ys up.1 down.1
          (λ z. tail_counts _ _ (count_of z xs) (count_of z ys) (ap (λ (w : K). one_if (is_eq (cmp z w))) xy) (same z)) in
          ap (λ (w : K). w ∷ xs) xy ∙ ap (λ (ws : List K). y ∷ ws) rest

      pub sorted_same : (xs ys : List K) → IsPermutation xs ys → IsSorted cmp ys → ys ≡ sort cmp xs
      sorted_same xs ys moved up =
          sym (sort-sorted ys up)
          ∙ rising_same (sort cmp ys) (sort cmp xs) (sort-rising ys) (sort-rising xs)
          (λ x. sort-sum_of (λ y. one_if (is_eq (cmp x y))) ys ∙ sum_of-permutation (λ y. one_if (is_eq (cmp x y))) xs ys moved
          ∙ sym (sort-sum_of (λ y. one_if (is_eq (cmp x y))) xs))

-- ---- spans

span_cmp_total : IsTotalOrder span_cmp
span_cmp_total =
    then_total (on_total (λ (span : Span). span.began) nat_cmp_total)
    (then_total (on_total (λ (span : Span). span.position) nat_cmp_total)
    (then_total (on_total (λ (span : Span). span.ended) nat_cmp_total) (on_total (λ (span : Span). span.failed) bool_cmp_total)))

exact_bool : CmpEqualImpliesEq bool_cmp
exact_bool false false e = refl
exact_bool false true e = absurd (cc)
exact_bool true false e = absurd (cc)
exact_bool true true e = refl

abbrev span_of : ℕ × (ℕ × (ℕ × Bool)) → Span
span_of parts = record { began = parts.0; position = parts.1.0; ended = parts.1.1.0; failed = parts.1.1.1 }

span_cmp_exact : CmpEqualImpliesEq span_cmp
span_cmp_exact a b e =
    ap span_of
    (exact_pairs nat_cmp _ exact_unsigned (exact_pairs nat_cmp _ exact_unsigned (exact_pairs nat_cmp bool_cmp exact_unsigned exact_bool))
    (a.began, (a.position, (a.ended, a.failed))) (b.began, (b.position, (b.ended, b.failed))) e)

pub are_in_order : (spans sorted : List Span) → IsPermutation spans sorted → IsSorted span_cmp sorted → sorted ≡ in_order spans
are_in_order spans sorted moved up = sorted_same span_cmp span_cmp_total span_cmp_exact spans sorted moved up

pub in_order-permutation : (spans : List Span) → IsPermutation spans (in_order spans)
in_order-permutation spans = sort-permutation span_cmp spans

pub in_order-sorted : (spans : List Span) → IsSorted span_cmp (in_order spans)
in_order-sorted spans = sort-is_sorted span_cmp span_cmp_total spans

pub in_order-rising : (spans : List Span) → IsRising span_cmp (in_order spans)
in_order-rising spans = sort-rising span_cmp span_cmp_total spans
