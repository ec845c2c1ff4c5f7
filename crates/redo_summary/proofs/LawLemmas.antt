-- The statements of the laws.
use Rattle.std.proofs.Common.{◌≡◌, ℕ, zero, suc, ◌+◌, ◌<◌, ◌≤◌, Bool, true, false, cond, ltb, List, [], ◌∷◌, ◌++◌, Option, None, Some, inl, inr, filter, filter_map, length, map, option_map, take, refl, ◌∙◌, ap, subst, arith}
use Rattle.std.specs.Prelude.{◌-◌, IfSome, if◌then◌else◌, slice_get}
use Rattle.std.specs.declared.cmp.Ordering.{Ordering}
use Rattle.std.specs.List.{AllByRecursion, Contains, cons_option}
use Rattle.std.specs.List.Sorted.{IsPermutation}
use Rattle.std.specs.Ordering.{is_gt}
use Rattle.std.proofs.lemmas.List.{append_assoc, length-append}
use Rattle.std.proofs.lemmas.List.Sorted.{IsPermutation-cons, IsPermutation-middle, IsPermutation-refl, IsPermutation-sym, IsPermutation-trans}
use Rattle.redo_timeline.specs.declared.span.Span.{Span}
use Rattle.redo_timeline.specs.Order.{insert_sorted, sort}
use Rattle.redo_times.specs.declared.times.Times.{Times}
use Rattle.redo_outline.specs.declared.node.Node.{Node}
use Rattle.redo_outline.specs.Facts.{is_failure}
use Rattle.redo_summary.specs.declared.rank.Rank.{Rank}
use Rattle.redo_summary.specs.declared.target.Target.{Target}
use Rattle.redo_summary.specs.Laws.{AreInOrderOfPosition, AreOfNodes, AreRisingFrom, AreSplit, HasDuration, HasTimeAlone, HasWarnings, IsMarkOf, IsOfTarget, IsSpanOf, RanNone, RanOthers}
use Rattle.redo_summary.specs.Spans.{caller_span, callers_of, mark_of, only_time, recipe_span, recipes_of, span_between, span_if, span_of, spans_of, target_of, targets_from, targets_of}
use Rattle.redo_summary.specs.Ranks.{alone_rank, alone_ranks, first_ranks, rank_cmp, rank_of, warnings_from}
use Rattle.redo_summary.specs.Summary.{summary_of}
use Rattle.redo_summary.specs.Targets.{duration_of, time_between, times_of}

-- ---- properties of each item still hold

module _ {X : Type 0} (P : X → Type 0) where
  all_passed : (test : X → Bool) (xs : List X) → AllByRecursion P xs → AllByRecursion P (filter test xs)
  all_passed test [] all = tt
  all_passed test (x ∷ xs) all = by (test x) (all_passed test xs all.1)
    where
      by : (b : Bool) → AllByRecursion P (filter test xs) → AllByRecursion P (cond b (x ∷ filter test xs) (filter test xs))
      by true more = (all.0, more)
      by false more = more

  pub all_taken : (n : ℕ) (xs : List X) → AllByRecursion P xs → AllByRecursion P (take n xs)
  all_taken zero xs all = tt
  all_taken (suc n) [] all = tt
  all_taken (suc n) (x ∷ xs) all = (all.0, all_taken n xs all.1)

  module _ (cmp : X → X → Ordering) where
    all_inserted : (x : X) (xs : List X) → P x → AllByRecursion P xs → AllByRecursion P (insert_sorted cmp x xs)
    all_inserted x [] here all = (here, tt)
    all_inserted x (y ∷ ys) here all = by (is_gt (cmp x y)) (all_inserted x ys here all.1)
      where
        by : (b : Bool) → AllByRecursion P (insert_sorted cmp x ys) → AllByRecursion P (cond b (y ∷ insert_sorted cmp x ys) (x ∷ y ∷ ys))
        by true more = (all.0, more)
        by false more = (here, all)

    pub all_sorted : (xs : List X) → AllByRecursion P xs → AllByRecursion P (sort cmp xs)
    all_sorted [] all = tt
    all_sorted (x ∷ xs) all = all_inserted x (sort cmp xs) all.0 (all_sorted xs all.1)

all_chosen : {X Y : Type 0} (P : X → Type 0) (Q : Y → Type 0) (choose : X → Option Y) → ((x : X) → P x → IfSome (choose x) Q)
    → (xs : List X) → AllByRecursion P xs → AllByRecursion Q (filter_map choose xs)
all_chosen {X = X} {Y = Y} P Q choose kept [] all = tt
all_chosen {X = X} {Y = Y} P Q choose kept (x ∷ xs) all = by (choose x) (kept x all.0) (all_chosen P Q choose kept xs all.1)
  where
    by : (chosen : Option Y) → IfSome chosen Q → AllByRecursion Q (filter_map choose xs)
        → AllByRecursion Q (cons_option chosen (filter_map choose xs))
    by None here more = more
    by (Some y) here more = (here, more)

-- The span of a target, if it ran others, and if it ran none.
module _ (P : Span → Type 0) (target : Target) (holds : IfSome (span_of target) P) where
  pub if_caller : IfSome (caller_span target) P
  if_caller = by target.times.ran_others
    where
      by : (b : Bool) → IfSome (if b then span_of target else None) P
      by true = holds
      by false = tt

  pub if_recipe : IfSome (recipe_span target) P
  if_recipe = by target.times.ran_others
    where
      by : (b : Bool) → IfSome (if b then None else span_of target) P
      by true = tt
      by false = holds

-- ---- positions

module _ (count : ℕ) where
  targets_below : (times : List Times) (position : ℕ) (nodes : List Node) → position + length nodes ≤ count
      → AllByRecursion (λ (target : Target). target.position < count) (targets_from times position nodes)
  targets_below times position [] within = tt
  targets_below times position (node ∷ nodes) within =
      (omega (arith, within), targets_below times (position + 1) nodes (omega (arith, within)))

  warnings_below : (position : ℕ) (nodes : List Node) → position + length nodes ≤ count
      → AllByRecursion (λ (rank : Rank). rank.position < count) (warnings_from position nodes)
  warnings_below position [] within = tt
  warnings_below position (node ∷ nodes) within = (omega (arith, within), warnings_below (position + 1) nodes (omega (arith, within)))

  span_below : (target : Target) → target.position < count → IfSome (span_of target) (λ (span : Span). span.position < count)
  span_below target below = by target.times.began target.times.ended
    where
      by : (began ended : Option ℕ) → IfSome (span_if target began ended) (λ (span : Span). span.position < count)
      by None None = tt
      by None (Some ended) = tt
      by (Some began) None = tt
      by (Some began) (Some ended) = below

  mark_below : (target : Target) → target.position < count → IfSome (mark_of target) (λ (span : Span). span.position < count)
  mark_below target below = by (only_time target.parent target.times.began target.times.ended)
    where
      by : (time : Option ℕ) → IfSome (option_map (λ (time : ℕ). span_between target time time) time)
          (λ (span : Span). span.position < count)
      by None = tt
      by (Some time) = below

  ranks_below : (spans : List Span) → AllByRecursion (λ (span : Span). span.position < count) spans
      → AllByRecursion (λ (rank : Rank). rank.position < count) (map rank_of spans)
  ranks_below [] all = tt
  ranks_below (span ∷ spans) all = (all.0, ranks_below spans all.1)

  alone_below : (all spans : List Span) → AllByRecursion (λ (span : Span). span.position < count) spans
      → AllByRecursion (λ (rank : Rank). rank.position < count) (map (alone_rank all) spans)
  alone_below all [] below = tt
  alone_below all (span ∷ spans) below = (below.0, alone_below all spans below.1)

  first_below : (ranks : List Rank) → AllByRecursion (λ (rank : Rank). rank.position < count) ranks
      → AllByRecursion (λ (rank : Rank). rank.position < count) (first_ranks ranks)
  first_below ranks all =
      all_taken (λ (rank : Rank). rank.position < count) 10 (sort rank_cmp ranks)
      (all_sorted (λ (rank : Rank). rank.position < count) rank_cmp ranks all)

pub are_of_nodes : (nodes : List Node) (times : List Times) → AreOfNodes nodes (summary_of nodes times)
are_of_nodes nodes times =
    let count = length nodes in
    let targets = targets_of nodes times in
    let below = targets_below count times 0 nodes (omega arith) in
    let recipes = all_chosen (λ (target : Target). target.position < count) (λ (span : Span). span.position < count) recipe_span
    (λ target within. if_recipe (λ (span : Span). span.position < count) target (span_below count target within)) targets below in
    record {
      callers = all_chosen (λ (target : Target). target.position < count) (λ (span : Span). span.position < count) caller_span
          (λ target within. if_caller (λ (span : Span). span.position < count) target (span_below count target within)) targets below;
      recipes = recipes;
      marks = all_chosen (λ (target : Target). target.position < count) (λ (span : Span). span.position < count) mark_of
          (mark_below count) targets below;
      longest = first_below count _ (ranks_below count _ recipes);
      alone = first_below count _ (all_passed (λ (rank : Rank). rank.position < count) (λ (rank : Rank). ltb 0 rank.value) _
          (alone_below count (recipes_of targets) _ recipes));
      warned = first_below count _ (all_passed (λ (rank : Rank). rank.position < count) (λ (rank : Rank). ltb 0 rank.value)
          (warnings_from 0 nodes) (warnings_below count 0 nodes (omega arith)));
    }

-- ---- the order of positions

rising_less : (least other : ℕ) (spans : List Span) → other ≤ least → AreRisingFrom least spans → AreRisingFrom other spans
rising_less least other [] less rising = tt
rising_less least other (span ∷ spans) less rising = (let le = rising.0 in omega (arith, less, le), rising.1)

rising_chosen : (choose : Target → Option Span)
    → ((target : Target) → IfSome (choose target) (λ (span : Span). span.position ≡ target.position))
    → (times : List Times) (position : ℕ) (nodes : List Node)
    → AreRisingFrom position (filter_map choose (targets_from times position nodes))
rising_chosen choose kept times position [] = tt
rising_chosen choose kept times position (node ∷ nodes) =
    by (choose (target_of times position node)) (kept (target_of times position node))
    (rising_chosen choose kept times (position + 1) nodes)
  where
    by : (chosen : Option Span) → IfSome chosen (λ (span : Span). span.position ≡ position)
        → AreRisingFrom (position + 1) (filter_map choose (targets_from times (position + 1) nodes))
        → AreRisingFrom position (cons_option chosen (filter_map choose (targets_from times (position + 1) nodes)))
    by None here more = rising_less (position + 1) position (filter_map choose (targets_from times (position + 1) nodes))
        (omega arith) more
    by (Some span) here more = (
      omega (arith, here),
      rising_less (position + 1) (span.position + 1)
          (filter_map choose (targets_from times (position + 1) nodes)) (omega (arith, here)) more,
    )

span_position : (target : Target) → IfSome (span_of target) (λ (span : Span). span.position ≡ target.position)
span_position target = by target.times.began target.times.ended
  where
    by : (began ended : Option ℕ) → IfSome (span_if target began ended) (λ (span : Span). span.position ≡ target.position)
    by None None = tt
    by None (Some ended) = tt
    by (Some began) None = tt
    by (Some began) (Some ended) = refl

mark_position : (target : Target) → IfSome (mark_of target) (λ (span : Span). span.position ≡ target.position)
mark_position target = by (only_time target.parent target.times.began target.times.ended)
  where
    by : (time : Option ℕ) → IfSome (option_map (λ (time : ℕ). span_between target time time) time)
        (λ (span : Span). span.position ≡ target.position)
    by None = tt
    by (Some time) = refl

pub are_in_order_of_position : (nodes : List Node) (times : List Times)
    → AreInOrderOfPosition (summary_of nodes times)
are_in_order_of_position nodes times =
    record {
      callers = rising_chosen caller_span
          (λ target. if_caller (λ (span : Span). span.position ≡ target.position) target (span_position target)) times 0 nodes;
      recipes = rising_chosen recipe_span
          (λ target. if_recipe (λ (span : Span). span.position ≡ target.position) target (span_position target)) times 0 nodes;
      marks = rising_chosen mark_of mark_position times 0 nodes;
    }

split : (targets : List Target) → IsPermutation (spans_of targets) (callers_of targets ++ recipes_of targets)
split [] = IsPermutation-refl []
split (target ∷ targets) = by target.times.ran_others (span_of target) (split targets)
  where
    callers : List Span
    callers = callers_of targets

    recipes : List Span
    recipes = recipes_of targets

    by : (b : Bool) (span : Option Span) → IsPermutation (spans_of targets) (callers ++ recipes)
        → IsPermutation (cons_option span (spans_of targets))
        (cons_option (if b then span else None) callers ++ cons_option (if b then None else span) recipes)
    by true None later = later
    by false None later = later
    by true (Some span) later = IsPermutation-cons span _ _ later
    by false (Some span) later =
        IsPermutation-trans _ _ _ (IsPermutation-cons span _ _ later)
        (IsPermutation-sym _ _ (IsPermutation-middle callers span recipes))

pub are_split : (nodes : List Node) (times : List Times) → AreSplit nodes times (summary_of nodes times)
are_split nodes times = split (targets_of nodes times)

-- ---- values

found_at : (before : List Node) (node : Node) (rest : List Node) → slice_get (before ++ (node ∷ rest)) (length before) ≡ Some node
found_at [] node rest = refl
found_at (other ∷ before) node rest = found_at before node rest

module _ (nodes : List Node) where
  found_in : (before : List Node) (node : Node) (rest : List Node) (position : ℕ) → before ++ (node ∷ rest) ≡ nodes
      → length before ≡ position → slice_get nodes position ≡ Some node
  found_in before node rest position split place =
      subst (λ (p : ℕ). slice_get nodes p ≡ Some node) place
      (subst (λ (all : List Node). slice_get all (length before) ≡ Some node) split (found_at before node rest))

  next_place : (before : List Node) (node : Node) (position : ℕ) → length before ≡ position
      → length (before ++ (node ∷ [])) ≡ position + 1
  next_place before node position place = length-append before (node ∷ []) ∙ ap (λ (n : ℕ). n + 1) place

  warnings_are : (before rest : List Node) (position : ℕ) → before ++ rest ≡ nodes → length before ≡ position
      → AllByRecursion (HasWarnings nodes) (warnings_from position rest)
  warnings_are before [] position split place = tt
  warnings_are before (node ∷ rest) position split place = (
    (node, found_in before node rest position split place, refl),
    warnings_are (before ++ (node ∷ [])) rest (position + 1) (append_assoc before (node ∷ []) rest ∙ split)
        (next_place before node position place),
  )

-- The target of a node at its position.
pub record IsShown (nodes : List Node) (times : List Times) (target : Target) : Type 0 where
  pub node : Node
  pub is_at : slice_get nodes target.position ≡ Some node
  pub same_times : times_of times node.number ≡ target.times
  pub status : target.failed ≡ is_failure node.status

module _ (nodes : List Node) (times : List Times) where
  shown_from : (before rest : List Node) (position : ℕ) → before ++ rest ≡ nodes → length before ≡ position
      → AllByRecursion (IsShown nodes times) (targets_from times position rest)
  shown_from before [] position split place = tt
  shown_from before (node ∷ rest) position split place = (
    record { node = node; is_at = found_in nodes before node rest position split place; same_times = refl; status = refl },
    shown_from (before ++ (node ∷ [])) rest (position + 1) (append_assoc before (node ∷ []) rest ∙ split)
        (next_place nodes before node position place),
  )

  targets_are_shown : AllByRecursion (IsShown nodes times) (targets_of nodes times)
  targets_are_shown = shown_from [] nodes 0 refl refl

  -- The spans of targets that ran others, and of those that ran none.
  pub all_callers : (P : Span → Type 0) → ((target : Target) → IsShown nodes times target → IfSome (caller_span target) P)
      → AllByRecursion P (summary_of nodes times).callers
  all_callers P holds =
      all_chosen (IsShown nodes times) P caller_span holds (targets_of nodes times) targets_are_shown

  pub all_recipes : (P : Span → Type 0) → ((target : Target) → IsShown nodes times target → IfSome (recipe_span target) P)
      → AllByRecursion P (summary_of nodes times).recipes
  all_recipes P holds =
      all_chosen (IsShown nodes times) P recipe_span holds (targets_of nodes times) targets_are_shown

  -- ---- how long recipes took

  abbrev IsSpan : Span → Type 0
  IsSpan span =
      (node : Node) × (slice_get nodes span.position ≡ Some node) × (duration_of times node.number ≡ Some (span.ended - span.began))

  span_is : (target : Target) → IsShown nodes times target → IfSome (span_of target) IsSpan
  span_is target shown =
      by target.times.began target.times.ended (ap (λ (known : Times). time_between known.began known.ended) shown.same_times)
    where
      by : (began ended : Option ℕ) → duration_of times shown.node.number ≡ time_between began ended
          → IfSome (span_if target began ended) IsSpan
      by None None took = tt
      by None (Some ended) took = tt
      by (Some began) None took = tt
      by (Some began) (Some ended) took = (shown.node, shown.is_at, took)

  ranks_are : (spans : List Span) → AllByRecursion IsSpan spans → AllByRecursion (HasDuration nodes times) (map rank_of spans)
  ranks_are [] all = tt
  ranks_are (span ∷ spans) all = ((all.0.0, all.0.1, span.ended - span.began, all.0.2, refl), ranks_are spans all.1)

  pub longest_are : AllByRecursion (HasDuration nodes times) (summary_of nodes times).longest
  longest_are =
      let recipes = recipes_of (targets_of nodes times) in
      let ranks = map rank_of recipes in
      all_taken (HasDuration nodes times) 10 (sort rank_cmp ranks)
      (all_sorted (HasDuration nodes times) rank_cmp ranks
      (ranks_are recipes (all_recipes IsSpan (λ target shown. if_recipe IsSpan target (span_is target shown)))))

-- ---- how long recipes ran alone

weaker : {X : Type 0} (P Q : X → Type 0) → ((x : X) → P x → Q x) → (xs : List X) → AllByRecursion P xs → AllByRecursion Q xs
weaker P Q so [] all = tt
weaker P Q so (x ∷ xs) all = (so x all.0, weaker P Q so xs all.1)

contained : (spans : List Span) → AllByRecursion (Contains spans) spans
contained [] = tt
contained (span ∷ spans) =
    ((0, omega arith, refl), weaker (Contains spans) (Contains (span ∷ spans)) later spans (contained spans))
  where
    later : (other : Span) → Contains spans other → Contains (span ∷ spans) other
    later other (k, below, is) = (suc k, omega (arith, below), is)

alone_have : (all spans : List Span) → AllByRecursion (Contains all) spans
    → AllByRecursion (HasTimeAlone all) (map (alone_rank all) spans)
alone_have all [] contains = tt
alone_have all (span ∷ spans) contains = ((span, contains.0, refl, refl), alone_have all spans contains.1)

pub alone_are : (nodes : List Node) (times : List Times)
    → AllByRecursion (HasTimeAlone (summary_of nodes times).recipes) (summary_of nodes times).alone
alone_are nodes times =
    let recipes = recipes_of (targets_of nodes times) in
    all_taken (HasTimeAlone recipes) 10 (sort rank_cmp (alone_ranks recipes))
    (all_sorted (HasTimeAlone recipes) rank_cmp (alone_ranks recipes)
    (all_passed (HasTimeAlone recipes) (λ (rank : Rank). ltb 0 rank.value) (map (alone_rank recipes) recipes)
    (alone_have recipes recipes (contained recipes))))

pub warned_are : (nodes : List Node) (times : List Times)
    → AllByRecursion (HasWarnings nodes) (summary_of nodes times).warned
warned_are nodes times =
    let ranks = filter (λ (rank : Rank). ltb 0 rank.value) (warnings_from 0 nodes) in
    all_taken (HasWarnings nodes) 10 (sort rank_cmp ranks)
    (all_sorted (HasWarnings nodes) rank_cmp ranks
    (all_passed (HasWarnings nodes) (λ (rank : Rank). ltb 0 rank.value) (warnings_from 0 nodes) (warnings_are nodes [] nodes 0 refl refl)))

-- ---- the targets of spans

module _ (nodes : List Node) (times : List Times) where
  shown_span : (target : Target) → IsShown nodes times target → IfSome (span_of target) (IsOfTarget IsSpanOf nodes times)
  shown_span target shown =
      by target.times.began target.times.ended (ap (λ (known : Times). known.began) shown.same_times)
      (ap (λ (known : Times). known.ended) shown.same_times)
    where
      by : (began ended : Option ℕ) → (times_of times shown.node.number).began ≡ began → (times_of times shown.node.number).ended ≡ ended
          → IfSome (span_if target began ended) (IsOfTarget IsSpanOf nodes times)
      by None None first last = tt
      by None (Some ended) first last = tt
      by (Some began) None first last = tt
      by (Some began) (Some ended) first last = (shown.node, shown.is_at, record { began = first; ended = last; failed = shown.status })

  shown_mark : (target : Target) → IsShown nodes times target → IfSome (mark_of target) (IsOfTarget IsMarkOf nodes times)
  shown_mark target shown =
      by target.parent target.times.began target.times.ended (ap (λ (known : Times). known.began) shown.same_times)
      (ap (λ (known : Times). known.ended) shown.same_times)
    where
      by : (parent began ended : Option ℕ) → (times_of times shown.node.number).began ≡ began
          → (times_of times shown.node.number).ended ≡ ended
          → IfSome (option_map (λ time. span_between target time time) (only_time parent began ended)) (IsOfTarget IsMarkOf nodes times)
      by None None None first last = tt
      by (Some parent) None None first last = tt
      by None (Some began) None first last = (shown.node, shown.is_at, record { time = inl first; moment = refl; failed = shown.status })
      by (Some parent) (Some began) None first last =
          (shown.node, shown.is_at, record { time = inl first; moment = refl; failed = shown.status })
      by None None (Some ended) first last = tt
      by (Some parent) None (Some ended) first last =
          (shown.node, shown.is_at, record { time = inr last; moment = refl; failed = shown.status })
      by None (Some began) (Some ended) first last = tt
      by (Some parent) (Some began) (Some ended) first last = tt

  pub callers_are_shown : AllByRecursion (IsOfTarget IsSpanOf nodes times) (summary_of nodes times).callers
  callers_are_shown =
      all_callers nodes times (IsOfTarget IsSpanOf nodes times)
      (λ target shown. if_caller (IsOfTarget IsSpanOf nodes times) target (shown_span target shown))

  pub recipes_are_shown : AllByRecursion (IsOfTarget IsSpanOf nodes times) (summary_of nodes times).recipes
  recipes_are_shown =
      all_recipes nodes times (IsOfTarget IsSpanOf nodes times)
      (λ target shown. if_recipe (IsOfTarget IsSpanOf nodes times) target (shown_span target shown))

  pub marks_are_shown : AllByRecursion (IsOfTarget IsMarkOf nodes times) (summary_of nodes times).marks
  marks_are_shown =
      all_chosen (IsShown nodes times) (IsOfTarget IsMarkOf nodes times) mark_of shown_mark (targets_of nodes times)
      (targets_are_shown nodes times)

  -- ---- which targets ran others

  module _ (target : Target) (shown : IsShown nodes times target) where
    caller_ran : IfSome (caller_span target) (IsOfTarget RanOthers nodes times)
    caller_ran = by target.times.ran_others target.times.began target.times.ended
        (ap (λ (known : Times). known.ran_others) shown.same_times)
      where
        by : (b : Bool) (began ended : Option ℕ) → (times_of times shown.node.number).ran_others ≡ b
            → IfSome (if b then span_if target began ended else None) (IsOfTarget RanOthers nodes times)
        by false began ended ran = tt
        by true None None ran = tt
        by true None (Some ended) ran = tt
        by true (Some began) None ran = tt
        by true (Some began) (Some ended) ran = (shown.node, shown.is_at, ran)

    recipe_ran_none : IfSome (recipe_span target) (IsOfTarget RanNone nodes times)
    recipe_ran_none = by target.times.ran_others target.times.began target.times.ended
        (ap (λ (known : Times). known.ran_others) shown.same_times)
      where
        by : (b : Bool) (began ended : Option ℕ) → (times_of times shown.node.number).ran_others ≡ b
            → IfSome (if b then None else span_if target began ended) (IsOfTarget RanNone nodes times)
        by true began ended ran = tt
        by false None None ran = tt
        by false None (Some ended) ran = tt
        by false (Some began) None ran = tt
        by false (Some began) (Some ended) ran = (shown.node, shown.is_at, ran)

  pub all_callers_ran : AllByRecursion (IsOfTarget RanOthers nodes times) (summary_of nodes times).callers
  all_callers_ran = all_callers nodes times (IsOfTarget RanOthers nodes times) caller_ran

  pub no_recipe_ran : AllByRecursion (IsOfTarget RanNone nodes times) (summary_of nodes times).recipes
  no_recipe_ran = all_recipes nodes times (IsOfTarget RanNone nodes times) recipe_ran_none
