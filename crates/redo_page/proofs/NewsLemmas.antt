-- What is new since a baseline: the lines with new warnings and errors, and the positions of targets.
use Rattle.std.proofs.Common.{◌≡◌, ℕ, zero, suc, ◌+◌, ◌<◌, ◌≤◌, Bool, true, false, List, [], ◌∷◌, ◌++◌, Option, None, Some, drop, get_or, length, map, sum_by, refl, sym, ◌∙◌, ap, subst, arith}
use Rattle.std.specs.Prelude.{◌==◌, filter, is_some, nat_lt, slice_get, take, if◌then◌else◌}
use Rattle.std.specs.List.{AllByRecursion, list_all}
use Rattle.std.proofs.lemmas.Bool.{eq-eqb, ne_eqb}
use Rattle.std.proofs.lemmas.List.{append_assoc, append-nil, at_drop_more, drop_all, length-append, map-append}
use Rattle.std.proofs.lemmas.List.Elements.{filter-append}
use Rattle.std.proofs.lemmas.List.Sums.{sum_by_more}
use Rattle.redo_compare.specs.Baseline.{BaselineValue, target_changes}
use Rattle.redo_compare.specs.LogChanges.{diagnostics_in, is_new}
use Rattle.redo_compare.specs.Occurrences.{OccurrenceValue, first_source, occurrence_if, occurrences_from}
use Rattle.redo_compare.specs.Rounds.{picked}
use Rattle.redo_diagnostics.specs.Diagnostic.{PartsValue, parts_of}
use Rattle.redo_logs.specs.Logs.{Log}
use Rattle.redo_outline.specs.declared.node.Node.{Node}
use Rattle.redo_outline.specs.Facts.{saturated}
use Rattle.redo_page.specs.Article.{printed_by}
use Rattle.redo_page.specs.Laws.{AreNewLines, IsDiagnosticAt, IsLineOfNode, values_at}
use Rattle.redo_page.specs.NewSection.{line_rank, new_in, new_lines, news_of}
use Rattle.redo_page.specs.Scope.{max_rows}
use Rattle.redo_page.specs.Tree.{node_at, positions_where}
use Rattle.redo_page.proofs.FailedIds.{where_are_below}
use Rattle.redo_summary.specs.declared.rank.Rank.{Rank}
use Rattle.redo_summary.specs.Laws.{AreRanksBelow}

-- ---- lists

both_all : {X : Type 0} (P : X → Type 0) (xs ys : List X) → AllByRecursion P xs → AllByRecursion P ys → AllByRecursion P (xs ++ ys)
both_all P [] ys first last = last
both_all P (x ∷ xs) ys first last = (first.0, both_all P xs ys first.1 last)

take_all_of : {X : Type 0} (P : X → Type 0) (count : ℕ) (xs : List X) → AllByRecursion P xs → AllByRecursion P (take count xs)
take_all_of P zero xs all = tt
take_all_of P (suc count) [] all = tt
take_all_of P (suc count) (x ∷ xs) all = (all.0, take_all_of P count xs all.1)

filter_all : {X : Type 0} (P : X → Type 0) (holds : X → Bool) (xs : List X) → AllByRecursion P xs → AllByRecursion P (filter holds xs)
filter_all P holds [] all = tt
filter_all P holds (x ∷ xs) all = by (holds x) (filter_all P holds xs all.1)
  where
    by : (is : Bool) → AllByRecursion P (filter holds xs)
        → AllByRecursion P (if is then x ∷ filter holds xs else filter holds xs)
    by true more = (all.0, more)
    by false more = more

-- The items whose flags say that a test holds are those for which it holds.
pub picked_filtered : {X : Type 0} (holds : X → Bool) (xs : List X) → picked (map holds xs) xs ≡ filter holds xs
picked_filtered holds [] = refl
picked_filtered holds (x ∷ xs) = by (holds x) (picked_filtered holds xs)
  where
    by : (is : Bool) → picked (map holds xs) xs ≡ filter holds xs
        → picked (is ∷ map holds xs) (x ∷ xs) ≡ (if is then x ∷ filter holds xs else filter holds xs)
    by true more = ap (λ (others : _). x ∷ others) more
    by false more = more

-- ---- positions

module _ (baseline : BaselineValue) (logs : List Log) where
  mapped_below : (count position : ℕ) → position < count → (ones : List OccurrenceValue)
      → AreRanksBelow count (map (line_rank position) ones)
  mapped_below count position below [] = tt
  mapped_below count position below (one ∷ ones) = (below, mapped_below count position below ones)

  lines_below : (count position : ℕ) (nodes : List Node) → position + length nodes ≤ count
      → AreRanksBelow count (new_lines baseline logs position nodes)
  lines_below count position [] within = tt
  lines_below count position (node ∷ nodes) within =
      both_all (λ (rank : Rank). rank.position < count) (map (line_rank position) (new_in baseline logs node))
      (new_lines baseline logs (suc position) nodes)
      (mapped_below count position (omega (arith, within)) (new_in baseline logs node))
      (lines_below count (suc position) nodes (omega (arith, within)))

pub news_below : (baseline : Option BaselineValue) (logs : List Log) (nodes : List Node)
    → AreRanksBelow (length nodes) (take max_rows (news_of baseline logs nodes).lines)
news_below None logs nodes = tt
news_below (Some baseline) logs nodes =
    take_all_of (λ (rank : Rank). rank.position < length nodes) max_rows (new_lines baseline logs 0 nodes)
    (lines_below baseline logs (length nodes) 0 nodes (omega arith))

abbrev AreBelow : ℕ → List ℕ → Type 0
AreBelow count positions = list_all (λ position. nat_lt position count) positions ≡ true

pub failing_below : (baseline : Option BaselineValue) (logs : List Log) (nodes : List Node)
    → AreBelow (length nodes) (news_of baseline logs nodes).failing
failing_below None logs nodes = refl
failing_below (Some baseline) logs nodes = where_are_below (λ (node : Node). (target_changes baseline logs node).newly_fails) nodes

pub fixed_below : (baseline : Option BaselineValue) (logs : List Log) (nodes : List Node)
    → AreBelow (length nodes) (news_of baseline logs nodes).fixed
fixed_below None logs nodes = refl
fixed_below (Some baseline) logs nodes = where_are_below (λ (node : Node). (target_changes baseline logs node).is_fixed) nodes

-- ---- the lines of each node

values-append : (at : ℕ) (ranks others : List Rank) → values_at at (ranks ++ others) ≡ values_at at ranks ++ values_at at others
values-append at ranks others =
    ap (map (λ (rank : Rank). rank.value)) (filter-append (λ (rank : Rank). rank.position == at) ranks others)
    ∙ map-append (λ (rank : Rank). rank.value) (filter (λ (rank : Rank). rank.position == at) ranks)
    (filter (λ (rank : Rank). rank.position == at) others)

-- The values of the lines of one target.
values_here : (at position : ℕ) (same : Bool) → (position == at) ≡ same → (ones : List OccurrenceValue)
    → values_at at (map (line_rank position) ones) ≡ (if same then map (λ (one : OccurrenceValue). one.line) ones else [])
values_here at position true is [] = refl
values_here at position false is [] = refl
values_here at position true is (one ∷ ones) =
    let more = values_here at position true is ones in
    rw is (ap (λ (lines : List ℕ). one.line ∷ lines) more)
values_here at position false is (one ∷ ones) = let more = values_here at position false is ones in rw is more

module _ (baseline : BaselineValue) (logs : List Log) where
  none_before : (at position : ℕ) (nodes : List Node) → at < position → values_at at (new_lines baseline logs position nodes) ≡ []
  none_before at position [] before = refl
  none_before at position (node ∷ nodes) before =
      values-append at (map (line_rank position) (new_in baseline logs node)) (new_lines baseline logs (suc position) nodes)
      ∙ ap (λ (lines : List ℕ). lines ++ values_at at (new_lines baseline logs (suc position) nodes))
      (values_here at position false (ne_eqb position at (λ same. omega (arith, same, before))) (new_in baseline logs node))
      ∙ none_before at (suc position) nodes (omega (arith, before))

  lines_of : (position k : ℕ) (nodes : List Node) → k < length nodes
      → values_at (position + k) (new_lines baseline logs position nodes)
      ≡ map (λ (one : OccurrenceValue). one.line) (new_in baseline logs (node_at nodes k))
  lines_of position k [] below = absurd (omega (arith, below))
  lines_of position zero (node ∷ nodes) below =
      let here = map (line_rank position) (new_in baseline logs node) in
      let rest = new_lines baseline logs (suc position) nodes in
      let found = map (λ (one : OccurrenceValue). one.line) (new_in baseline logs node) in
      let is : position + zero ≡ position = omega arith in
      ap (λ (at : ℕ). values_at at (here ++ rest)) is ∙ values-append position here rest
      ∙ ap (λ (lines : List ℕ). lines ++ values_at position rest)
      (values_here position position true (eq-eqb position position refl) (new_in baseline logs node))
      ∙ ap (λ (lines : List ℕ). found ++ lines) (none_before position (suc position) nodes (omega arith)) ∙ append-nil found
  lines_of position (suc k) (node ∷ nodes) below =
      let here = map (line_rank position) (new_in baseline logs node) in
      let rest = new_lines baseline logs (suc position) nodes in
      let is : position + suc k ≡ suc position + k = omega arith in
      values-append (position + suc k) here rest
      ∙ ap (λ (lines : List ℕ). lines ++ values_at (position + suc k) rest)
      (values_here (position + suc k) position false (ne_eqb position (position + suc k) (λ same. omega (arith, same)))
      (new_in baseline logs node))
      ∙ ap (λ (at : ℕ). values_at at rest) is ∙ lines_of (suc position) k nodes (omega (arith, below))

-- ---- warnings and errors

-- The line after some lines.
line_after : (before : List (List ℕ)) (line : List ℕ) (lines : List (List ℕ))
    → slice_get (before ++ line ∷ lines) (length before) ≡ Some line
line_after [] line lines = refl
line_after (one ∷ before) line lines = line_after before line lines

abbrev Found : List (List ℕ) → OccurrenceValue → Type 0
Found lines one = IsDiagnosticAt lines one.line

found_from : (before lines : List (List ℕ)) → AllByRecursion (Found (before ++ lines)) (occurrences_from (length before) lines)
found_from before [] = tt
found_from before (line ∷ lines) =
    let size : length (before ++ line ∷ []) ≡ suc (length before) = length-append before (line ∷ []) ∙ (omega arith) in
    by (parts_of line) refl
    (subst (λ (position : ℕ). AllByRecursion (Found (before ++ line ∷ lines)) (occurrences_from position lines)) size
    (subst (λ (all : List (List ℕ)). AllByRecursion (Found all) (occurrences_from (length (before ++ line ∷ [])) lines))
    (append_assoc before (line ∷ []) lines) (found_from (before ++ line ∷ []) lines)))
  where
    by : (value : Option PartsValue) → parts_of line ≡ value
        → AllByRecursion (Found (before ++ line ∷ lines)) (occurrences_from (suc (length before)) lines)
        → AllByRecursion (Found (before ++ line ∷ lines))
        (occurrence_if (length before) value (first_source lines) (occurrences_from (suc (length before)) lines))
    by None is others = others
    by (Some value) is others = ((line, line_after before line lines, ap is_some is), others)

module _ (baseline : BaselineValue) (logs : List Log) (all : List Node) where
  here_found : (position : ℕ) (node : Node) → position < length all → node_at all position ≡ node → (ones : List OccurrenceValue)
      → AllByRecursion (Found (printed_by logs node)) ones
      → AllByRecursion (IsLineOfNode baseline logs all) (map (line_rank position) ones)
  here_found position node below is [] found = tt
  here_found position node below is (one ∷ ones) found = (
    (below, subst (λ (n : Node). IsDiagnosticAt (printed_by logs n) one.line) (sym is) found.0),
    here_found position node below is ones found.1,
  )

  lines_found : (position : ℕ) (nodes : List Node) → ((k : ℕ) → node_at all (position + k) ≡ node_at nodes k)
      → position + length nodes ≤ length all
      → AllByRecursion (IsLineOfNode baseline logs all) (new_lines baseline logs position nodes)
  lines_found position [] same within = tt
  lines_found position (node ∷ nodes) same within =
      let is : position ≡ position + 0 = omega arith in
      both_all (IsLineOfNode baseline logs all) (map (line_rank position) (new_in baseline logs node))
      (new_lines baseline logs (suc position) nodes)
      (here_found position node (omega (arith, within)) (ap (node_at all) is ∙ same 0) (new_in baseline logs node)
      (filter_all (Found (printed_by logs node)) (is_new baseline.logs logs node.number) (diagnostics_in logs node.number)
      (found_from [] (printed_by logs node))))
      (lines_found (suc position) nodes
      (λ k. let next : suc position + k ≡ position + suc k = omega arith in ap (node_at all) next ∙ same (suc k))
      (omega (arith, within)))

pub are_new_lines : (baseline : BaselineValue) (logs : List Log) (nodes : List Node)
    → AreNewLines baseline logs nodes (new_lines baseline logs 0 nodes)
are_new_lines baseline logs nodes = record {
  each = λ position below.
      let is : position ≡ 0 + position = omega arith in
      ap (λ (at : ℕ). values_at at (new_lines baseline logs 0 nodes)) is ∙ lines_of baseline logs 0 position nodes below;
  of_nodes = lines_found baseline logs nodes 0 nodes (λ k. let is : 0 + k ≡ k = omega arith in ap (node_at nodes) is) (omega arith);
}

-- ---- one more node

-- More items were appended.
appended : {X : Type 0} (all old left more rest next : List X) → all ≡ old ++ left → left ≡ more ++ rest → next ≡ old ++ more
    → all ≡ next ++ rest
appended {X} all old left more rest next before step is =
    before ∙ ap (λ (t : List X). old ++ t) step ∙ sym (append_assoc old more rest) ∙ ap (λ (t : List X). t ++ rest) (sym is)

module _ (nodes : List Node) (position : ℕ) (d : Node) (within : position < length nodes) where
  pub where_step : (holds : Node → Bool) (is : Bool) → is ≡ holds (get_or nodes position d) → (old next : List ℕ)
      → next ≡ old ++ (if is then position ∷ [] else [])
      → positions_where holds 0 nodes ≡ old ++ positions_where holds position (drop position nodes)
      → positions_where holds 0 nodes ≡ next ++ positions_where holds (position + 1) (drop (position + 1) nodes)
  where_step holds is same old next pushed before =
      appended _ _ _ _ _ _ before
      (at_drop_more (positions_where holds position) nodes position d within ∙ by (holds (get_or nodes position d)))
      (pushed ∙ ap (λ (b : Bool). old ++ (if b then position ∷ [] else [])) same)
    where
      by : (b : Bool)
          → (if b then position ∷ positions_where holds (suc position) (drop (position + 1) nodes)
          else positions_where holds (suc position) (drop (position + 1) nodes))
          ≡ (if b then position ∷ [] else []) ++ positions_where holds (position + 1) (drop (position + 1) nodes)
      by true = let is : suc position ≡ position + 1 = omega arith in
          ap (λ (n : ℕ). position ∷ positions_where holds n (drop (position + 1) nodes)) is
      by false = let is : suc position ≡ position + 1 = omega arith in
          ap (λ (n : ℕ). positions_where holds n (drop (position + 1) nodes)) is

  pub gone_step : (count : Node → ℕ) (gone one next : ℕ) → one ≡ count (get_or nodes position d) → next ≡ saturated (gone + one)
      → gone ≡ saturated (sum_by count (take position nodes)) → next ≡ saturated (sum_by count (take (position + 1) nodes))
  gone_step count gone one next same sum before =
      let more = sum_by_more count nodes position d within in
      omega (arith, same, sum, before, more)

  module _ (baseline : BaselineValue) (logs : List Log) where
    pub lines_step : (flags : List Bool) → flags ≡ (target_changes baseline logs (get_or nodes position d)).new → (old next : List Rank)
        → next ≡ old ++ map (line_rank position) (picked flags (diagnostics_in logs (get_or nodes position d).number))
        → new_lines baseline logs 0 nodes ≡ old ++ new_lines baseline logs position (drop position nodes)
        → new_lines baseline logs 0 nodes ≡ next ++ new_lines baseline logs (position + 1) (drop (position + 1) nodes)
    lines_step flags same old next pushed before =
        let node = get_or nodes position d in
        let ones = diagnostics_in logs node.number in
        let is : suc position ≡ position + 1 = omega arith in
        appended _ _ _ _ _ _ before
        (at_drop_more (new_lines baseline logs position) nodes position d within
        ∙ ap (λ (n : ℕ). map (line_rank position) (new_in baseline logs node) ++ new_lines baseline logs n (drop (position + 1) nodes)) is)
        (pushed
        ∙ ap (λ (fs : List Bool). old ++ map (line_rank position) (picked fs ones)) same
        ∙ ap (λ (found : List OccurrenceValue). old ++ map (line_rank position) found)
        (picked_filtered (is_new baseline.logs logs node.number) ones))

-- Nothing is picked after the end.
pub picked_end : (position index : ℕ) (flags : List Bool) (ones : List OccurrenceValue) → length ones ≤ index
    → map (line_rank position) (picked (drop index flags) (drop index ones)) ≡ []
picked_end position index flags ones past =
    ap (λ (left : List OccurrenceValue). map (line_rank position) (picked (drop index flags) left)) (drop_all index ones past)
    ∙ by (drop index flags)
  where
    by : (left : List Bool) → map (line_rank position) (picked left []) ≡ []
    by [] = refl
    by (flag ∷ left) = refl
