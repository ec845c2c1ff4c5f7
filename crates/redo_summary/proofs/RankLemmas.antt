-- Tables of ranks.
use Rattle.std.proofs.Common.{◌≡◌, ℕ, zero, suc, ◌+◌, ◌-◌, ◌<◌, ◌≤◌, Bool, true, false, cond, ltb, List, [], ◌∷◌, ◌++◌, drop, filter, get_or, length, map, take, refl, sym, ap, ◌∙◌, inl, inr, arith}
use Rattle.std.specs.declared.cmp.Ordering.{Ordering}
use Rattle.std.specs.declared.cmp.Ordering.TheVariants.{Less, Equal, Greater}
use Rattle.std.specs.Cmp.{ranks}
use Rattle.std.specs.Ordering.{MatchOrdering, is_gt, nat_cmp, ordering_then}
use Rattle.std.proofs.lemmas.Bool.Decides.{nat_tests}
use Rattle.std.proofs.lemmas.List.{drop_more, length-take}
use Rattle.redo_timeline.specs.declared.span.Span.{Span}
use Rattle.redo_timeline.specs.Order.{insert_sorted, sort}
use Rattle.redo_outline.specs.declared.node.Node.{Node}
use Rattle.redo_summary.specs.declared.rank.Rank.{Rank}
use Rattle.redo_summary.specs.Laws.{AreInOrder, IsBefore, IsBeforeFirst, IsTable}
use Rattle.redo_outline.proofs.Nodes.{no_node}
use Rattle.redo_summary.specs.Ranks.{duration, first_ranks, longest_of, rank_cmp, rank_of, warnings_from}

module _ {K : Type 0} (cmp : K → K → Ordering) where
  -- An item is inserted into a list at this position, or at a later one.
  abbrev pub IsInsertedFrom : ℕ → K → List K → Type 0
  IsInsertedFrom position item items = insert_sorted cmp item items ≡ take position items ++ insert_sorted cmp item (drop position items)

  take_longer : (n : ℕ) (items : List K) → take n (take (suc n) items) ≡ take n items
  take_longer zero items = refl
  take_longer (suc n) [] = refl
  take_longer (suc n) (item ∷ items) = ap (λ rest. item ∷ rest) (take_longer n items)

  take_cons : (n : ℕ) (item : K) (items : List K) → take n (item ∷ take n items) ≡ take n (item ∷ items)
  take_cons zero item items = refl
  take_cons (suc n) item items = ap (λ rest. item ∷ rest) (take_longer n items)

  -- Only the first items of a sorted list count for the first items of the list with one more.
  pub take-insert : (n : ℕ) (item : K) (items : List K)
      → take n (insert_sorted cmp item (take n items)) ≡ take n (insert_sorted cmp item items)
  take-insert zero item items = refl
  take-insert (suc n) item [] = refl
  take-insert (suc n) item (first ∷ rest) = by (is_gt (cmp item first)) (take-insert n item rest)
    where
      by : (b : Bool) → take n (insert_sorted cmp item (take n rest)) ≡ take n (insert_sorted cmp item rest)
          → take (suc n) (cond b (first ∷ insert_sorted cmp item (take n rest)) (item ∷ first ∷ take n rest))
          ≡ take (suc n) (cond b (first ∷ insert_sorted cmp item rest) (item ∷ first ∷ rest))
      by true more = ap (λ items. first ∷ items) more
      by false more = ap (λ items. item ∷ items) (take_cons n first rest)

-- ---- one more rank

pub first_more : (rank : Rank) (ranks : List Rank) → take 10 (insert_sorted rank_cmp rank (first_ranks ranks)) ≡ first_ranks (rank ∷ ranks)
first_more rank ranks = take-insert rank_cmp 10 rank (sort rank_cmp ranks)

pub longest_more : (recipes : List Span) (i : ℕ) (d : Span) → i < length recipes
    → take 10 (insert_sorted rank_cmp (rank_of (get_or recipes i d)) (longest_of (drop (i + 1) recipes))) ≡ longest_of (drop i recipes)
longest_more recipes i d below = first_more (rank_of (get_or recipes i d)) (map rank_of (drop (i + 1) recipes))
    ∙ ap longest_of (sym (drop_more recipes i d below))

-- The span of a position past the end.
abbrev pub no_span : Span
no_span = record { began = 0; position = 0; ended = 0; failed = false }

-- The step of a loop that goes down.
pub longest_next : (recipes : List Span) (i value : ℕ) (old new : List Rank) → 0 < i → i ≤ length recipes
    → value ≡ duration (get_or recipes (i - 1) no_span) → old ≡ longest_of (drop i recipes)
    → new ≡ take 10 (insert_sorted rank_cmp (record { value = value; position = (get_or recipes (i - 1) no_span).position }) old)
    → new ≡ longest_of (drop (i - 1) recipes)
longest_next recipes i value old new some within took so_far inserted =
    let i_is : i ≡ i - 1 + 1 = omega arith in
    inserted ∙ ap (λ (v : ℕ). take 10 (insert_sorted rank_cmp
    (record { value = v; position = (get_or recipes (i - 1) no_span).position }) old)) took
    ∙ ap (λ ranks. take 10 (insert_sorted rank_cmp (rank_of (get_or recipes (i - 1) no_span)) ranks))
    (so_far ∙ ap (λ (k : ℕ). longest_of (drop k recipes)) i_is)
    ∙ longest_more recipes (i - 1) no_span (omega arith)

-- The targets with the most warnings of consecutive nodes. The first node has this position.
abbrev pub warned_from : ℕ → List Node → List Rank
warned_from position nodes = first_ranks (filter (λ (rank : Rank). ltb 0 rank.value) (warnings_from position nodes))

abbrev rank_at : ℕ → Node → Rank
rank_at position node = record { value = node.warnings; position = position }

warned_next : (position : ℕ) (node : Node) (nodes : List Node) (b : Bool) → ltb 0 node.warnings ≡ b
    → warned_from position (node ∷ nodes)
    ≡ first_ranks (cond b (rank_at position node ∷ filter (λ (rank : Rank). ltb 0 rank.value) (warnings_from (position + 1) nodes))
    (filter (λ (rank : Rank). ltb 0 rank.value) (warnings_from (position + 1) nodes)))
warned_next position node nodes b is =
    ap (λ (b : Bool). first_ranks (cond b
    (rank_at position node ∷ filter (λ (rank : Rank). ltb 0 rank.value) (warnings_from (position + 1) nodes))
    (filter (λ (rank : Rank). ltb 0 rank.value) (warnings_from (position + 1) nodes)))) is

-- A target with warnings, and one without.
pub warned_more : (nodes : List Node) (i : ℕ) (d : Node) → i < length nodes → 0 < (get_or nodes i d).warnings
    → take 10 (insert_sorted rank_cmp (rank_at i (get_or nodes i d)) (warned_from (i + 1) (drop (i + 1) nodes)))
    ≡ warned_from i (drop i nodes)
warned_more nodes i d below some =
    first_more (rank_at i (get_or nodes i d)) (filter (λ (rank : Rank). ltb 0 rank.value) (warnings_from (i + 1) (drop (i + 1) nodes)))
    ∙ sym (ap (warned_from i) (drop_more nodes i d below)
    ∙ warned_next i (get_or nodes i d) (drop (i + 1) nodes) true (grind (arith, nat_tests)))

pub warned_less : (nodes : List Node) (i : ℕ) (d : Node) → i < length nodes → (get_or nodes i d).warnings ≤ 0
    → warned_from (i + 1) (drop (i + 1) nodes) ≡ warned_from i (drop i nodes)
warned_less nodes i d below none =
    sym (ap (warned_from i) (drop_more nodes i d below)
    ∙ warned_next i (get_or nodes i d) (drop (i + 1) nodes) false (grind (arith, nat_tests)))

-- The step of a loop that goes down.
pub warned_next_down : (nodes : List Node) (i : ℕ) (old new : List Rank) → 0 < i → i ≤ length nodes
    → 0 < (get_or nodes (i - 1) no_node).warnings → old ≡ warned_from i (drop i nodes)
    → new ≡ take 10 (insert_sorted rank_cmp (rank_at (i - 1) (get_or nodes (i - 1) no_node)) old)
    → new ≡ warned_from (i - 1) (drop (i - 1) nodes)
warned_next_down nodes i old new some within warnings so_far inserted =
    let i_is : i ≡ i - 1 + 1 = omega arith in
    inserted ∙ ap (λ ranks. take 10 (insert_sorted rank_cmp (rank_at (i - 1) (get_or nodes (i - 1) no_node)) ranks))
    (so_far ∙ ap (λ (k : ℕ). warned_from k (drop k nodes)) i_is)
    ∙ warned_more nodes (i - 1) no_node (omega arith) warnings

pub warned_same_down : (nodes : List Node) (i : ℕ) (ranks : List Rank) → 0 < i → i ≤ length nodes
    → (get_or nodes (i - 1) no_node).warnings ≤ 0 → ranks ≡ warned_from i (drop i nodes)
    → ranks ≡ warned_from (i - 1) (drop (i - 1) nodes)
warned_same_down nodes i ranks some within none so_far =
    let i_is : i ≡ i - 1 + 1 = omega arith in
    so_far ∙ ap (λ (k : ℕ). warned_from k (drop k nodes)) i_is ∙ warned_less nodes (i - 1) no_node (omega arith) none

-- The first ten recipes by these values, without those whose value is 0.
module _ (value_of : Span → ℕ) where
  abbrev rank_by : Span → Rank
  rank_by recipe = record { value = value_of recipe; position = recipe.position }

  abbrev ranks_by : List Span → List Rank
  ranks_by recipes = filter (λ (rank : Rank). ltb 0 rank.value) (map rank_by recipes)

  abbrev pub most_by : List Span → List Rank
  most_by recipes = first_ranks (ranks_by recipes)

  most_next : (recipe : Span) (recipes : List Span) (b : Bool) → ltb 0 (value_of recipe) ≡ b
      → most_by (recipe ∷ recipes) ≡ first_ranks (cond b (rank_by recipe ∷ ranks_by recipes) (ranks_by recipes))
  most_next recipe recipes b is = ap (λ (b : Bool). first_ranks (cond b (rank_by recipe ∷ ranks_by recipes) (ranks_by recipes))) is

  -- The steps of a loop that goes down: a recipe with a value, and one without.
  pub most_more : (recipes : List Span) (i value : ℕ) (old new : List Rank) → 0 < i → i ≤ length recipes
      → value ≡ value_of (get_or recipes (i - 1) no_span) → 0 < value → old ≡ most_by (drop i recipes)
      → new ≡ take 10 (insert_sorted rank_cmp (record { value = value; position = (get_or recipes (i - 1) no_span).position }) old)
      → new ≡ most_by (drop (i - 1) recipes)
  most_more recipes i value old new some within is any so_far inserted =
      let recipe = get_or recipes (i - 1) no_span in
      let i_is : i ≡ i - 1 + 1 = omega arith in
      let has : 0 < value_of recipe = omega (arith, any, is) in
      let positive : ltb 0 (value_of recipe) ≡ true = grind (arith, nat_tests) in
      inserted
      ∙ ap (λ (v : ℕ). take 10 (insert_sorted rank_cmp (record { value = v; position = recipe.position }) old)) is
      ∙ ap (λ ranks. take 10 (insert_sorted rank_cmp (rank_by recipe) ranks))
      (so_far ∙ ap (λ (k : ℕ). most_by (drop k recipes)) i_is)
      ∙ first_more (rank_by recipe) (ranks_by (drop (i - 1 + 1) recipes))
      ∙ sym (ap most_by (drop_more recipes (i - 1) no_span (omega arith)) ∙ most_next recipe (drop (i - 1 + 1) recipes) true positive)

  pub most_same : (recipes : List Span) (i value : ℕ) (ranks : List Rank) → 0 < i → i ≤ length recipes
      → value ≡ value_of (get_or recipes (i - 1) no_span) → value ≡ 0 → ranks ≡ most_by (drop i recipes)
      → ranks ≡ most_by (drop (i - 1) recipes)
  most_same recipes i value ranks some within is none so_far =
      let recipe = get_or recipes (i - 1) no_span in
      let i_is : i ≡ i - 1 + 1 = omega arith in
      so_far ∙ ap (λ (k : ℕ). most_by (drop k recipes)) i_is
      ∙ sym (ap most_by (drop_more recipes (i - 1) no_span (omega arith))
      ∙ most_next recipe (drop (i - 1 + 1) recipes) false (ap (λ (v : ℕ). ltb 0 v) (sym is ∙ none)))

-- ---- the order of ranks

-- A rank that is after another one, and one that isn't.
before_if_after : (a b : Rank) → is_gt (rank_cmp a b) ≡ true → IsBefore b a
before_if_after a b after = by (nat_cmp b.value a.value) (ranks b.value a.value) (nat_cmp a.position b.position)
    (ranks a.position b.position) after
  where
    by : (o : Ordering) → MatchOrdering o (b.value < a.value) (b.value ≡ a.value) (a.value < b.value) → (p : Ordering)
        → MatchOrdering p (a.position < b.position) (a.position ≡ b.position) (b.position < a.position) → is_gt (ordering_then o p) ≡ true
        → IsBefore b a
    by Less values p positions gt = absurd (cc)
    by Equal values Less positions gt = absurd (cc)
    by Equal values Equal positions gt = absurd (cc)
    by Equal values Greater positions gt = inr (values, omega (arith, positions))
    by Greater values p positions gt = inl values

before_if_not_after : (a b : Rank) → is_gt (rank_cmp a b) ≡ false → IsBefore a b
before_if_not_after a b not_after = by (nat_cmp b.value a.value) (ranks b.value a.value) (nat_cmp a.position b.position)
    (ranks a.position b.position) not_after
  where
    by : (o : Ordering) → MatchOrdering o (b.value < a.value) (b.value ≡ a.value) (a.value < b.value) → (p : Ordering)
        → MatchOrdering p (a.position < b.position) (a.position ≡ b.position) (b.position < a.position) → is_gt (ordering_then o p) ≡ false
        → IsBefore a b
    by Less values p positions gt = inl values
    by Equal values Less positions gt = inr (sym values, omega (arith, positions))
    by Equal values Equal positions gt = inr (sym values, omega (arith, positions))
    by Equal values Greater positions gt = absurd (cc)
    by Greater values p positions gt = absurd (cc)

before_inserted : (rank new : Rank) (ranks : List Rank) → IsBefore rank new → IsBeforeFirst rank ranks
    → IsBeforeFirst rank (insert_sorted rank_cmp new ranks)
before_inserted rank new [] before first = before
before_inserted rank new (next ∷ rest) before first = by (is_gt (rank_cmp new next))
  where
    by : (b : Bool) → IsBeforeFirst rank (cond b (next ∷ insert_sorted rank_cmp new rest) (new ∷ next ∷ rest))
    by true = first
    by false = before

inserted_in_order : (new : Rank) (ranks : List Rank) → AreInOrder ranks → AreInOrder (insert_sorted rank_cmp new ranks)
inserted_in_order new [] ordered = (tt, tt)
inserted_in_order new (next ∷ rest) ordered = by (is_gt (rank_cmp new next)) refl (inserted_in_order new rest ordered.1)
  where
    by : (b : Bool) → is_gt (rank_cmp new next) ≡ b → AreInOrder (insert_sorted rank_cmp new rest)
        → AreInOrder (cond b (next ∷ insert_sorted rank_cmp new rest) (new ∷ next ∷ rest))
    by true after more = (before_inserted next new rest (before_if_after new next after) ordered.0, more)
    by false after more = (before_if_not_after new next after, ordered)

pub sorted_in_order : (ranks : List Rank) → AreInOrder (sort rank_cmp ranks)
sorted_in_order [] = tt
sorted_in_order (rank ∷ rest) = inserted_in_order rank (sort rank_cmp rest) (sorted_in_order rest)

before_taken : (n : ℕ) (rank : Rank) (ranks : List Rank) → IsBeforeFirst rank ranks → IsBeforeFirst rank (take n ranks)
before_taken zero rank ranks first = tt
before_taken (suc n) rank [] first = tt
before_taken (suc n) rank (next ∷ rest) first = first

taken_in_order : (n : ℕ) (ranks : List Rank) → AreInOrder ranks → AreInOrder (take n ranks)
taken_in_order zero ranks ordered = tt
taken_in_order (suc n) [] ordered = tt
taken_in_order (suc n) (rank ∷ rest) ordered = (before_taken n rank rest ordered.0, taken_in_order n rest ordered.1)

pub first_are_table : (ranks : List Rank) → IsTable (first_ranks ranks)
first_are_table ranks = (
  let count = length-take 10 (sort rank_cmp ranks) in
      omega (arith, count),
  taken_in_order 10 (sort rank_cmp ranks) (sorted_in_order ranks),
)
