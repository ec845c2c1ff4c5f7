-- The order of the targets that failed with none below them.
use Rattle.std.proofs.Common.{◌≡◌, ◌⊎◌, ℕ, zero, suc, ◌<◌, Bool, true, false, List, [], ◌∷◌, ◌++◌, Option, None, Some, refl, ap, inl, inr, arith}
use Rattle.std.specs.Prelude.{◌&&◌, nat_eq, not, take, if◌then◌else◌}
use Rattle.std.specs.declared.cmp.Ordering.{Ordering}
use Rattle.std.specs.declared.cmp.Ordering.TheVariants.{Less, Equal, Greater}
use Rattle.std.specs.Cmp.{IsTotalOrder, ranks}
use Rattle.std.specs.List.{AllByRecursion, AllPairs, IsDistinct, list_all}
use Rattle.std.specs.List.Sorted.{IsPermutation, IsSorted}
use Rattle.std.specs.Ordering.{MatchOrdering, is_gt, nat_cmp, ordering_reverse, ordering_then}
use Rattle.std.proofs.lemmas.Bool.{and_from, and_parts, eqb-false}
use Rattle.std.proofs.lemmas.Bool.Decides.{nat_tests}
use Rattle.std.proofs.lemmas.Cmp.{nat_cmp_total, nat_eq_equiv, on_total, then_total}
use Rattle.std.proofs.lemmas.List.Elements.{All-from_recursion}
use Rattle.std.proofs.lemmas.List.Kept.{AllPairs-cons}
use Rattle.std.proofs.lemmas.List.Sorted.{IsPermutation-append_left, IsPermutation-cons, IsPermutation-middle, IsPermutation-refl, IsPermutation-sym, IsPermutation-trans}
use Rattle.std.proofs.lemmas.Map.Keys.{IsDistinct-IsPermutation, IsDistinct-cons, IsDistinct-head, IsDistinct-tail}
use Rattle.std.proofs.lemmas.Map.Lookups.{CmpEqualImpliesEq, exact_unsigned}
use Rattle.redo_outline.specs.declared.node.Node.{Node}
use Rattle.redo_page.specs.Failed.{is_dependent_failure}
use Rattle.redo_page.specs.Laws.{EndsBefore, IsListedBefore}
use Rattle.redo_page.specs.Tree.{articles, end_cmp, is_root_failure, failure_cmp, root_failures, has_failed, max_articles, node_at, positions_where}
use Rattle.redo_timeline.specs.Order.{insert_sorted, sort}
use Rattle.redo_timeline.proofs.OrderLemmas.{IsRising, sort-permutation, sort-rising, sorted_same}

-- ---- the order of ends

ends_reversed : (one other : Option ℕ) → end_cmp one other ≡ ordering_reverse (end_cmp other one)
ends_reversed (Some one) (Some other) = nat_cmp_total.antisymm one other
ends_reversed (Some one) None = refl
ends_reversed None (Some other) = refl
ends_reversed None None = refl

ends_chained : (one other third : Option ℕ) → end_cmp one other ≡ Less → end_cmp other third ≡ Less → end_cmp one third ≡ Less
ends_chained (Some one) (Some other) (Some third) first last = nat_cmp_total.trans one other third first last
ends_chained (Some one) (Some other) None first last = refl
ends_chained (Some one) None (Some third) first last = absurd (cc)
ends_chained (Some one) None None first last = absurd (cc)
ends_chained None (Some other) third first last = absurd (cc)
ends_chained None None third first last = absurd (cc)

ends_alike : (one other third : Option ℕ) → end_cmp one other ≡ Equal → end_cmp one third ≡ end_cmp other third
ends_alike (Some one) (Some other) (Some third) same = nat_cmp_total.congr one other third same
ends_alike (Some one) (Some other) None same = refl
ends_alike (Some one) None third same = absurd (cc)
ends_alike None (Some other) third same = absurd (cc)
ends_alike None None third same = refl

end_cmp_total : IsTotalOrder end_cmp
end_cmp_total = record { antisymm = ends_reversed; trans = ends_chained; congr = ends_alike }

-- ---- the order of positions

last_equal : (first last : Ordering) → ordering_then first last ≡ Equal → last ≡ Equal
last_equal Less last same = absurd (cc)
last_equal Equal last same = same
last_equal Greater last same = absurd (cc)

module _ (nodes : List Node) where
  pub failure_cmp_total : IsTotalOrder (failure_cmp nodes)
  failure_cmp_total = then_total (on_total (λ (position : ℕ). (node_at nodes position).ended) end_cmp_total) nat_cmp_total

  failure_cmp_exact : CmpEqualImpliesEq (failure_cmp nodes)
  failure_cmp_exact position other same =
      exact_unsigned position other (last_equal (end_cmp (node_at nodes position).ended (node_at nodes other).ended)
      (nat_cmp position other) same)

  pub are_sorted : (positions sorted : List ℕ) → IsPermutation positions sorted → IsSorted (failure_cmp nodes) sorted
      → sorted ≡ sort (failure_cmp nodes) positions
  are_sorted positions sorted moved up = sorted_same (failure_cmp nodes) failure_cmp_total failure_cmp_exact positions sorted moved up

  -- ---- properties of all positions

  insert-passes : (passes : ℕ → Bool) (position : ℕ) (positions : List ℕ) → passes position ≡ true → list_all passes positions ≡ true
      → list_all passes (insert_sorted (failure_cmp nodes) position positions) ≡ true
  insert-passes passes position [] here all = and_from (passes position) true here refl
  insert-passes passes position (other ∷ positions) here all =
      let parts = and_parts (passes other) (list_all passes positions) all in
      by (is_gt (failure_cmp nodes position other)) parts.0 (insert-passes passes position positions here parts.1)
    where
      by : (after : Bool) → passes other ≡ true → list_all passes (insert_sorted (failure_cmp nodes) position positions) ≡ true
          → list_all passes (if after then other ∷ insert_sorted (failure_cmp nodes) position positions
          else position ∷ other ∷ positions) ≡ true
      by true first more = and_from (passes other) (list_all passes (insert_sorted (failure_cmp nodes) position positions)) first more
      by false first more = and_from (passes position) (list_all passes (other ∷ positions)) here all

  pub sort-passes : (passes : ℕ → Bool) (positions : List ℕ) → list_all passes positions ≡ true
      → list_all passes (sort (failure_cmp nodes) positions) ≡ true
  sort-passes passes [] all = refl
  sort-passes passes (position ∷ positions) all =
      let parts = and_parts (passes position) (list_all passes positions) all in
      insert-passes passes position (sort (failure_cmp nodes) positions) parts.0 (sort-passes passes positions parts.1)

-- ---- no position occurs twice

apart : (other position : ℕ) → other < position → nat_eq other position ≡ false
apart other position less = grind (arith, nat_tests)

positions_apart : (other position : ℕ) (nodes : List Node) → other < position
    → AllByRecursion (λ number. nat_eq other number ≡ false) (positions_where is_root_failure position nodes)
positions_apart other position [] less = tt
positions_apart other position (node ∷ nodes) less = by (is_root_failure node) (positions_apart other (suc position) nodes (omega arith))
  where
    by : (first : Bool) → AllByRecursion (λ number. nat_eq other number ≡ false) (positions_where is_root_failure (suc position) nodes)
        → AllByRecursion (λ number. nat_eq other number ≡ false)
        (if first then position ∷ positions_where is_root_failure (suc position) nodes
        else positions_where is_root_failure (suc position) nodes)
    by true others = (apart other position less, others)
    by false others = others

positions_distinct : (position : ℕ) (nodes : List Node) → IsDistinct nat_eq (positions_where is_root_failure position nodes)
unfolding IsDistinct
positions_distinct position [] = tt
positions_distinct position (node ∷ nodes) = by (is_root_failure node) (positions_distinct (suc position) nodes)
  where
    by : (first : Bool) → IsDistinct nat_eq (positions_where is_root_failure (suc position) nodes)
        → IsDistinct nat_eq (if first then position ∷ positions_where is_root_failure (suc position) nodes
        else positions_where is_root_failure (suc position) nodes)
    by true others = IsDistinct-cons nat_eq position (positions_where is_root_failure (suc position) nodes)
        (positions_apart position (suc position) nodes (omega arith)) others
    by false others = others

roots_distinct : (nodes : List Node) → IsDistinct nat_eq (root_failures nodes)
roots_distinct nodes =
    IsDistinct-IsPermutation nat_eq nat_eq_equiv.symm (positions_where is_root_failure 0 nodes) (root_failures nodes)
    (sort-permutation (failure_cmp nodes) (positions_where is_root_failure 0 nodes)) (positions_distinct 0 nodes)

take_apart : (other count : ℕ) (positions : List ℕ) → AllByRecursion (λ number. nat_eq other number ≡ false) positions
    → AllByRecursion (λ number. nat_eq other number ≡ false) (take count positions)
take_apart other zero positions all = tt
take_apart other (suc count) [] all = tt
take_apart other (suc count) (position ∷ positions) all = (all.0, take_apart other count positions all.1)

take_distinct : (count : ℕ) (positions : List ℕ) → IsDistinct nat_eq positions → IsDistinct nat_eq (take count positions)
unfolding IsDistinct
take_distinct zero positions distinct = tt
take_distinct (suc count) [] distinct = tt
take_distinct (suc count) (position ∷ positions) distinct =
    (take_apart position count positions distinct.0, take_distinct count positions distinct.1)

pub articles_distinct : (nodes : List Node) → IsDistinct nat_eq (articles nodes)
articles_distinct nodes = take_distinct max_articles (root_failures nodes) (roots_distinct nodes)

-- ---- which targets are listed

pub all_listed : (position : ℕ) (nodes : List Node)
    → IsPermutation (positions_where has_failed position nodes)
    (positions_where is_root_failure position nodes ++ positions_where is_dependent_failure position nodes)
all_listed position [] = IsPermutation-refl []
all_listed position (node ∷ nodes) =
    by (has_failed node) node.fails_below (positions_where has_failed (suc position) nodes)
    (positions_where is_root_failure (suc position) nodes)
    (positions_where is_dependent_failure (suc position) nodes) (all_listed (suc position) nodes)
  where
    by : (failed below : Bool) (all roots dependents : List ℕ) → IsPermutation all (roots ++ dependents)
        → IsPermutation (if failed then position ∷ all else all)
        ((if failed && not below then position ∷ roots else roots) ++ (if failed && below then position ∷ dependents else dependents))
    by false below all roots dependents moved = moved
    by true false all roots dependents moved = IsPermutation-cons position all (roots ++ dependents) moved
    by true true all roots dependents moved =
        IsPermutation-trans _ _ _ (IsPermutation-cons position all (roots ++ dependents) moved)
        (IsPermutation-sym _ _ (IsPermutation-middle roots position dependents))

pub are_listed : (nodes : List Node)
    → IsPermutation (positions_where has_failed 0 nodes) (root_failures nodes ++ positions_where is_dependent_failure 0 nodes)
are_listed nodes =
    IsPermutation-trans _ _ _ (all_listed 0 nodes)
    (IsPermutation-append_left (positions_where is_dependent_failure 0 nodes) (positions_where is_root_failure 0 nodes)
    (root_failures nodes)
    (sort-permutation (failure_cmp nodes) (positions_where is_root_failure 0 nodes)))

-- ---- in which order

lower : (position other : ℕ) → is_gt (nat_cmp position other) ≡ false → nat_eq position other ≡ false → position < other
lower position other not_after differ = by (nat_cmp position other) (ranks position other) not_after
  where
    by : (o : Ordering) → MatchOrdering o (position < other) (position ≡ other) (other < position) → is_gt o ≡ false → position < other
    by Less is up = is
    by Equal is up = absurd (eqb-false position other differ is)
    by Greater is up = absurd (cc)

listed_before : (ended other_ended : Option ℕ) (position other : ℕ)
    → is_gt (ordering_then (end_cmp ended other_ended) (nat_cmp position other)) ≡ false → nat_eq position other ≡ false
    → EndsBefore ended other_ended ⊎ ((ended ≡ other_ended) × (position < other))
listed_before (Some ended) (Some other_ended) position other not_after differ =
    by (nat_cmp ended other_ended) (ranks ended other_ended) not_after
  where
    by : (o : Ordering) → MatchOrdering o (ended < other_ended) (ended ≡ other_ended) (other_ended < ended)
        → is_gt (ordering_then o (nat_cmp position other)) ≡ false
        → (ended < other_ended) ⊎ ((Some ended ≡ Some other_ended) × (position < other))
    by Less is up = inl is
    by Equal is up = inr (ap Some is, lower position other up differ)
    by Greater is up = absurd (cc)
listed_before (Some ended) None position other not_after differ = inl tt
listed_before None (Some other_ended) position other not_after differ = absurd (cc)
listed_before None None position other not_after differ = inr (refl, lower position other not_after differ)

module _ (nodes : List Node) where
  all_before : (position : ℕ) (positions : List ℕ) → AllByRecursion (λ other. is_gt (failure_cmp nodes position other) ≡ false) positions
      → AllByRecursion (λ other. nat_eq position other ≡ false) positions
      → AllByRecursion (IsListedBefore nodes position) positions
  all_before position [] up differ = tt
  all_before position (other ∷ positions) up differ = (
    listed_before (node_at nodes position).ended (node_at nodes other).ended position other up.0 differ.0,
    all_before position positions up.1 differ.1,
  )

  rising : (positions : List ℕ) → IsRising (failure_cmp nodes) positions → IsDistinct nat_eq positions
      → AllPairs (IsListedBefore nodes) positions
  rising [] up distinct = λ i j other before within. absurd (omega (arith, within))
  rising (position ∷ positions) up distinct =
      AllPairs-cons (IsListedBefore nodes) position positions
      (All-from_recursion (IsListedBefore nodes position) positions
      (all_before position positions up.0 (IsDistinct-head nat_eq position positions distinct)))
      (rising positions up.1 (IsDistinct-tail nat_eq position positions distinct))

  pub are_in_order : AllPairs (IsListedBefore nodes) (root_failures nodes)
  are_in_order = rising (root_failures nodes)
      (sort-rising (failure_cmp nodes) (failure_cmp_total nodes) (positions_where is_root_failure 0 nodes))
      (roots_distinct nodes)
