-- Summaries that the laws accept, and others that they reject.
use Rattle.std.proofs.Common.{◌≤◌, ◌≡◌, ◌<◌, ◌+◌, ℕ, zero, suc, true, false, List, [], ◌∷◌, ◌++◌, None, Some, get_or, length, replicate, inl, inr, refl, sym, ap, ◌∙◌, arith}
use Rattle.std.specs.List.{AllByRecursion}
use Rattle.std.proofs.lemmas.List.Sorted.{length_permutation}
use Rattle.std.proofs.lemmas.Option.{none-some, same_Some}
use Rattle.redo_timeline.proofs.OrderLemmas.{sum_of-permutation}
use Rattle.redo_timeline.proofs.OrderLemmas.{sum_of as added}
use Rattle.redo_facts.specs.declared.statement.Usage.{Usage}
use Rattle.redo_times.specs.declared.times.Times.{Times}
use Rattle.redo_outline.specs.declared.node.Node.{Node}
use Rattle.redo_summary.specs.declared.rank.Rank.{Rank}
use Rattle.redo_summary.specs.Laws.{AreInOrder, AreInOrderOfPosition, AreOfNodes, AreSplit, HasFirstTen, HasMemory, HasTimeAlone, IsBefore, IsOfTarget, IsProcessorTime, IsTable, RanNone, RanOthers, warning_ranks}
use Rattle.redo_summary.specs.Summary.{Facts}
use Rattle.redo_summary.specs.Targets.{times_of}
use Rattle.redo_summary.specs.Usage.{usage_at}
use Rattle.redo_summary.specs.Window.{cut}
use Rattle.redo_timeline.specs.Alone.{alone}
use Rattle.redo_timeline.specs.declared.span.Span.{Span}
use Rattle.redo_summary.proofs.SummaryRows.{node, ran, ran_some, rank, span, unknown, usage, used}

-- ---- tables

-- A larger value comes later; then a lower position with an equal value; then eleven ranks.
rejected_tables :
    ¬ AreInOrder (rank 5 0 ∷ rank 6 1 ∷ []) × ¬ AreInOrder (rank 9 0 ∷ rank 5 2 ∷ rank 5 1 ∷ [])
    × ¬ IsTable (rank 0 0 ∷ rank 0 1 ∷ rank 0 2 ∷ rank 0 3 ∷ rank 0 4 ∷ rank 0 5 ∷ rank 0 6 ∷ rank 0 7 ∷ rank 0 8 ∷ rank 0 9 ∷ rank 0 10
    ∷ []) × ¬ IsTable (rank 5 0 ∷ rank 6 1 ∷ [])
rejected_tables = (
  λ ordered. elim ordered.0 [ inl less ↦ omega (arith, less) | inr same ↦ let equal = same.0 in omega (arith, equal) ],
  λ ordered. elim ordered.1.0 [ inl less ↦ omega (arith, less) | inr same ↦ let le = same.1 in omega (arith, le) ],
  λ table. let few = table.0 in omega (arith, few),
  λ table. elim table.1.0 [ inl less ↦ omega (arith, less) | inr same ↦ let equal = same.0 in omega (arith, equal) ],
)

-- A target without warnings has no rank.
these_warnings : warning_ranks (node 5 None None 0 0 ∷ node 3 (Some 0) None 0 2 ∷ node 4 (Some 0) None 0 7 ∷ []) ≡ rank 2 1 ∷ rank 7 2 ∷ []
these_warnings = refl

abbrev value : Rank → ℕ
value rank = rank.value

-- A table lacks a rank, though it has less than ten; then it has a rank that is not one of these; then it lacks the largest of eleven.
rejected_firsts :
    ¬ HasFirstTen (rank 5 0 ∷ []) [] × ¬ HasFirstTen (rank 5 0 ∷ []) (rank 7 0 ∷ [])
    × ¬ HasFirstTen (rank 9 0 ∷ replicate 10 (rank 1 1)) (replicate 10 (rank 1 1))
rejected_firsts = (
  λ has. let count : 0 ≡ 1 = has.count in omega (arith, count),
  λ has. let sum : 7 + added value has.others ≡ 5 = sum_of-permutation value (rank 5 0 ∷ []) (rank 7 0 ∷ has.others) has.once in
      omega (arith, sum),
  λ has. by has.others (length_permutation (rank 9 0 ∷ replicate 10 (rank 1 1)) (replicate 10 (rank 1 1) ++ has.others) has.once)
      (sum_of-permutation value (rank 9 0 ∷ replicate 10 (rank 1 1)) (replicate 10 (rank 1 1) ++ has.others) has.once) has.first.0,
)
  where
    by : (others : List Rank) → length (replicate 10 (rank 1 1) ++ others) ≡ 11 → added value (replicate 10 (rank 1 1) ++ others) ≡ 19
        → AllByRecursion (IsBefore (rank 1 1)) others → ⊥
    by [] count sum before = omega (arith, count)
    by (other ∷ []) count sum before = elim before.0
        [ inl less ↦ omega (arith, sum, less) | inr same ↦ let equal = same.0 in omega (arith, sum, equal) ]
    by (other ∷ next ∷ rest) count sum before = omega (arith, count)

-- ---- positions

-- Facts of no targets.
abbrev no_facts : Facts
no_facts = record {
  window = None;
  took = 0;
  callers = [];
  recipes = [];
  marks = [];
  sum = 0;
  most = 0;
  warnings = 0;
  bytes = 0;
  longest = [];
  alone = [];
  warned = [];
}

abbrev one_node : List Node
one_node = node 0 None None 0 0 ∷ []

-- A position in each list is not below the number of nodes.
rejected_positions :
    ¬ AreOfNodes one_node (record no_facts { callers = span 1 3 4 ∷ [] })
    × ¬ AreOfNodes one_node (record no_facts { recipes = span 1 3 4 ∷ [] })
    × ¬ AreOfNodes one_node (record no_facts { marks = span 1 3 3 ∷ [] })
    × ¬ AreOfNodes one_node (record no_facts { longest = rank 7 1 ∷ [] })
    × ¬ AreOfNodes one_node (record no_facts { warned = rank 7 1 ∷ [] })
    × ¬ AreOfNodes one_node (record no_facts { alone = rank 7 1 ∷ [] })
rejected_positions = (
  λ of_nodes. let below : 1 < 1 = of_nodes.callers.0 in omega (arith, below),
  λ of_nodes. let below : 1 < 1 = of_nodes.recipes.0 in omega (arith, below),
  λ of_nodes. let below : 1 < 1 = of_nodes.marks.0 in omega (arith, below),
  λ of_nodes. let below : 1 < 1 = of_nodes.longest.0 in omega (arith, below),
  λ of_nodes. let below : 1 < 1 = of_nodes.warned.0 in omega (arith, below),
  λ of_nodes. let below : 1 < 1 = of_nodes.alone.0 in omega (arith, below),
)

-- The positions fall in each list; then a position occurs twice.
rejected_orders :
    ¬ AreInOrderOfPosition (record no_facts { callers = span 2 1 9 ∷ span 1 3 4 ∷ [] })
    × ¬ AreInOrderOfPosition (record no_facts { recipes = span 2 1 9 ∷ span 1 3 4 ∷ [] })
    × ¬ AreInOrderOfPosition (record no_facts { marks = span 2 5 5 ∷ span 1 7 7 ∷ [] })
    × ¬ AreInOrderOfPosition (record no_facts { marks = span 3 5 5 ∷ span 3 7 7 ∷ [] })
rejected_orders = (
  λ order. let above : 3 ≤ 1 = order.callers.1.0 in omega (arith, above),
  λ order. let above : 3 ≤ 1 = order.recipes.1.0 in omega (arith, above),
  λ order. let above : 3 ≤ 1 = order.marks.1.0 in omega (arith, above),
  λ order. let above : 4 ≤ 3 = order.marks.1.0 in omega (arith, above),
)

-- ---- callers and recipes

-- A span is in no list, or in both.
rejected_split :
    ¬ AreSplit one_node (ran 1 9 ∷ []) no_facts
    × ¬ AreSplit one_node (ran 1 9 ∷ []) (record no_facts { callers = span 0 1 9 ∷ []; recipes = span 0 1 9 ∷ [] })
rejected_split = (
  λ split. let same : 0 ≡ 1 = length_permutation (span 0 1 9 ∷ []) [] split in omega (arith, same),
  λ split. let same : 2 ≡ 1 = length_permutation (span 0 1 9 ∷ []) (span 0 1 9 ∷ span 0 1 9 ∷ []) split in omega (arith, same),
)

abbrev two_nodes : List Node
two_nodes = node 1 None None 0 0 ∷ node 0 (Some 0) None 0 0 ∷ []

abbrev two_times : List Times
two_times = ran 20 80 ∷ ran_some 10 90 ∷ []

-- The target of the span ran others, or didn't, by the number of its log. Then there is no target at this position.
accepted_run : IsOfTarget RanOthers two_nodes two_times (span 0 10 90) × IsOfTarget RanNone two_nodes two_times (span 1 20 80)
accepted_run = ((node 1 None None 0 0, refl, refl), (node 0 (Some 0) None 0 0, refl, refl))

rejected_runs :
    ¬ IsOfTarget RanOthers two_nodes two_times (span 1 20 80) × ¬ IsOfTarget RanNone two_nodes two_times (span 0 10 90)
    × ¬ IsOfTarget RanNone two_nodes two_times (span 2 10 90)
rejected_runs = (
  λ (one, is_at, ran). by_none (sym (ap (λ (n : Node). times_of two_times n.number)
      (same_Some (node 0 (Some 0) None 0 0) one is_at))) ran,
  λ (one, is_at, ran). by_some (sym (ap (λ (n : Node). times_of two_times n.number) (same_Some (node 1 None None 0 0) one is_at))) ran,
  λ (one, is_at, ran). none-some one is_at,
)
  where
    by_none : {known : Times} → known ≡ ran 20 80 → known.ran_others ≡ true → ⊥
    by_none same is = let differs : false ≡ true = sym (ap (λ (t : Times). t.ran_others) same) ∙ is in cc

    by_some : {known : Times} → known ≡ ran_some 10 90 → known.ran_others ≡ false → ⊥
    by_some same is = let differs : true ≡ false = sym (ap (λ (t : Times). t.ran_others) same) ∙ is in cc

-- ---- what recipes used

-- Nothing is known, but there is a time; then the time is unknown, though something is known; then it has no system time.
rejected_processor_times :
    ¬ IsProcessorTime [] (Some 0) × ¬ IsProcessorTime (usage 30 5 2000 ∷ []) None × ¬ IsProcessorTime (usage 30 5 2000 ∷ []) (Some 30)
rejected_processor_times = (
  λ is. none-some 0 (sym is),
  λ is. none-some 35 is,
  λ is. let same : 30 ≡ 35 = same_Some 30 35 is in omega (arith, same),
)

-- The memory is unknown, or another. Then there is no node.
rejected_memory :
    ¬ HasMemory one_node (unknown ∷ []) (rank 0 0) × ¬ HasMemory one_node (used 30 5 2000 ∷ []) (rank 30 0)
    × ¬ HasMemory one_node (used 30 5 2000 ∷ []) (rank 2000 1)
rejected_memory = (
  λ has. by_none has.0 (same_Some (node 0 None None 0 0) has.0 has.1) has.2 has.3,
  λ has. by_other has.0 (same_Some (node 0 None None 0 0) has.0 has.1) has.2 has.3 has.4,
  λ has. none-some has.0 has.1,
)
  where
    by_none : (other : Node) → node 0 None None 0 0 ≡ other → (known : Usage) → usage_at (unknown ∷ []) other.number ≡ Some known → ⊥
    by_none other same known is =
        none-some known (ap (λ (n : Node). usage_at (unknown ∷ []) n.number) same ∙ is)

    by_other : (other : Node) → node 0 None None 0 0 ≡ other → (known : Usage)
        → usage_at (used 30 5 2000 ∷ []) other.number ≡ Some known → 30 ≡ known.peak_kb → ⊥
    by_other other same known is value =
        let found : usage 30 5 2000 ≡ known =
        same_Some (usage 30 5 2000) known (ap (λ (n : Node). usage_at (used 30 5 2000 ∷ []) n.number) same ∙ is) in
        let peak : 2000 ≡ known.peak_kb = ap (λ (u : Usage). u.peak_kb) found in
        omega (arith, value, peak)

-- No recipe is listed; then the recipe has another position; then it was alone for 9 ms.
rejected_times_alone :
    ¬ HasTimeAlone [] (rank 9 0) × ¬ HasTimeAlone (span 0 1 10 ∷ []) (rank 9 1) × ¬ HasTimeAlone (span 0 1 10 ∷ []) (rank 8 0)
rejected_times_alone = (
  λ has. let below : has.1.0 < 0 = has.1.1 in omega (arith, below),
  λ has. by_position has.0 has.1.0 has.1.1 has.1.2 has.2,
  λ has. by_value has.0 has.1.0 has.1.1 has.1.2 has.3,
)
  where
    the_one : (other : Span) (k : ℕ) → k < 1 → get_or (span 0 1 10 ∷ []) k other ≡ other → span 0 1 10 ≡ other
    the_one other zero below is = is
    the_one other (suc k) below is = absurd (omega (arith, below))

    by_position : (other : Span) (k : ℕ) → k < 1 → get_or (span 0 1 10 ∷ []) k other ≡ other → other.position ≡ 1 → ⊥
    by_position other k below is place =
        let same : 0 ≡ other.position = ap (λ (s : Span). s.position) (the_one other k below is) in omega (arith, same, place)

    by_value : (other : Span) (k : ℕ) → k < 1 → get_or (span 0 1 10 ∷ []) k other ≡ other
        → 8 ≡ cut (alone (span 0 1 10 ∷ []) other) → ⊥
    by_value other k below is value =
        let same : 9 ≡ cut (alone (span 0 1 10 ∷ []) other) =
        ap (λ (s : Span). cut (alone (span 0 1 10 ∷ []) s)) (the_one other k below is) in
        omega (arith, same, value)
