-- The statements of the laws.
use Rattle.std.specs.Prelude.{◌≡◌, ℕ, ◌+◌, ◌-◌, ◌<◌, ◌≤◌, ◌⊎◌, max, min, ltb, true, false, List, [], ◌∷◌, ◌++◌, length, filter, Option, None, Some, slice_get, sum_by}
use Rattle.std.specs.List.{AllByRecursion, Contains}
use Rattle.std.specs.List.Sorted.{IsPermutation}
use Rattle.redo_facts.specs.declared.statement.Usage.{Usage}
use Rattle.redo_facts.specs.Facts.{RecipeFacts}
use Rattle.redo_timeline.specs.declared.span.Span.{Span}
use Rattle.redo_timeline.specs.declared.span.Window.{Window}
use Rattle.redo_timeline.specs.Alone.{alone}
use Rattle.redo_timeline.specs.Parallelism.{most_of}
use Rattle.redo_times.specs.declared.times.Times.{Times}
use Rattle.redo_times.specs.Laws.{IsFirst, IsLast}
use Rattle.redo_outline.specs.declared.node.Node.{Node}
use Rattle.redo_outline.specs.Facts.{is_failure, saturated}
use Rattle.redo_summary.specs.declared.rank.Rank.{Rank}
use Rattle.redo_summary.specs.Spans.{spans_of, targets_of}
use Rattle.redo_summary.specs.Ranks.{warnings_from}
use Rattle.redo_summary.specs.Summary.{Facts}
use Rattle.redo_summary.specs.Targets.{duration_of, times_of}
use Rattle.redo_summary.specs.Usage.{usage_at}
use Rattle.redo_summary.specs.Window.{cut}

-- The positions of spans, or of ranks, are below a number.
abbrev pub AreSpansBelow : ℕ → List Span → Type 0
AreSpansBelow count spans = AllByRecursion (λ (span : Span). span.position < count) spans

abbrev pub AreRanksBelow : ℕ → List Rank → Type 0
AreRanksBelow count ranks = AllByRecursion (λ (rank : Rank). rank.position < count) ranks

-- Each position is the position of a node.
pub record AreOfNodes (nodes : List Node) (facts : Facts) : Type 0 where
  pub callers : AreSpansBelow (length nodes) facts.callers
  pub recipes : AreSpansBelow (length nodes) facts.recipes
  pub marks : AreSpansBelow (length nodes) facts.marks
  pub longest : AreRanksBelow (length nodes) facts.longest
  pub alone : AreRanksBelow (length nodes) facts.alone
  pub warned : AreRanksBelow (length nodes) facts.warned

-- The positions of spans rise, and none is below a number.
abbrev pub AreRisingFrom : ℕ → List Span → Type 0
AreRisingFrom least [] = Unit {0}
AreRisingFrom least (span ∷ spans) = (least ≤ span.position) × AreRisingFrom (span.position + 1) spans

-- Each list of spans is in order of position, and has no position twice.
pub record AreInOrderOfPosition (facts : Facts) : Type 0 where
  pub callers : AreRisingFrom 0 facts.callers
  pub recipes : AreRisingFrom 0 facts.recipes
  pub marks : AreRisingFrom 0 facts.marks

-- Each span of a shown target is in exactly one of the lists.
abbrev pub AreSplit : List Node → List Times → Facts → Type 0
AreSplit nodes times facts = IsPermutation (spans_of (targets_of nodes times)) (facts.callers ++ facts.recipes)

-- A shown target began or ended at this time.
abbrev pub HasTime : Times → ℕ → Type 0
HasTime known time = (known.began ≡ Some time) ⊎ (known.ended ≡ Some time)

abbrev pub IsKnown : List Node → List Times → ℕ → Type 0
IsKnown nodes times time = (node : Node) × Contains nodes node × HasTime (times_of times node.number) time

-- A span has both times of a target, and says whether the target failed.
pub record IsSpanOf (known : Times) (node : Node) (span : Span) : Type 0 where
  pub began : known.began ≡ Some span.began
  pub ended : known.ended ≡ Some span.ended
  pub failed : span.failed ≡ is_failure node.status

-- A mark is at a time of a target, and says whether the target failed.
pub record IsMarkOf (known : Times) (node : Node) (mark : Span) : Type 0 where
  pub time : HasTime known mark.began
  pub moment : mark.ended ≡ mark.began
  pub failed : mark.failed ≡ is_failure node.status

-- The span of a target that ran others, or of one that ran none.
abbrev pub RanOthers : Times → Node → Span → Type 0
RanOthers known node span = known.ran_others ≡ true

abbrev pub RanNone : Times → Node → Span → Type 0
RanNone known node span = known.ran_others ≡ false

-- A span is of the target at its position.
abbrev pub IsOfTarget : (Times → Node → Span → Type 0) → List Node → List Times → Span → Type 0
IsOfTarget IsOf nodes times span =
    (node : Node) × (slice_get nodes span.position ≡ Some node) × IsOf (times_of times node.number) node span

-- The totals are over all recipes, and over all shown targets.
pub record AreTotals (nodes : List Node) (facts : Facts) : Type 0 where
  pub sum : facts.sum ≡ saturated (sum_by (λ (span : Span). cut (span.ended - span.began)) facts.recipes)
  pub most : facts.most ≡ most_of facts.recipes
  pub warnings : facts.warnings ≡ saturated (sum_by (λ (node : Node). node.warnings) nodes)
  pub bytes : facts.bytes ≡ saturated (sum_by (λ (node : Node). node.bytes) nodes)

-- The processor time of recipes is the sum over all known usages. It is unknown if there is none.
abbrev pub IsProcessorTime : List Usage → Option ℕ → Type 0
IsProcessorTime [] processor = processor ≡ None
IsProcessorTime (usage ∷ usages) processor =
    processor ≡ Some (saturated (sum_by (λ (used : Usage). used.user_ms + used.system_ms) (usage ∷ usages)))

-- A window begins at the first known time, and `took` is how long it is from there to the last one. The window is this long, but at least
-- one millisecond.
pub record IsOverTimes (nodes : List Node) (times : List Times) (took : ℕ) (window : Window) : Type 0 where
  pub begins : IsFirst (IsKnown nodes times) window.began
  pub last : ℕ
  pub ends : IsLast (IsKnown nodes times) last
  pub lasts : took ≡ cut (last - window.began)
  pub width : window.width ≡ max 1 took

-- A rank is before another: its value is larger, or it is equal and its position isn't higher.
abbrev pub IsBefore : Rank → Rank → Type 0
IsBefore rank next = (next.value < rank.value) ⊎ ((rank.value ≡ next.value) × (rank.position ≤ next.position))

abbrev pub IsBeforeFirst : Rank → List Rank → Type 0
IsBeforeFirst rank [] = Unit {0}
IsBeforeFirst rank (next ∷ ranks) = IsBefore rank next

-- Each rank is before the next one.
abbrev pub AreInOrder : List Rank → Type 0
AreInOrder [] = Unit {0}
AreInOrder (rank ∷ ranks) = IsBeforeFirst rank ranks × AreInOrder ranks

-- At most ten ranks, each before the next one.
abbrev pub IsTable : List Rank → Type 0
IsTable ranks = (length ranks ≤ 10) × AreInOrder ranks

-- A rank for each target with warnings.
abbrev pub warning_ranks : List Node → List Rank
warning_ranks nodes = filter (λ (rank : Rank). ltb 0 rank.value) (warnings_from 0 nodes)

-- A table has the first ten of some ranks, or all of them if there are no more: it and some others are these ranks, each once, and each
-- rank of the table is before each of the others.
pub record HasFirstTen (ranks table : List Rank) : Type 0 where
  pub others : List Rank
  pub once : IsPermutation ranks (table ++ others)
  pub count : length table ≡ min 10 (length ranks)
  pub first : AllByRecursion (λ (rank : Rank). AllByRecursion (IsBefore rank) others) table

-- The value of a rank is how long the target at its position took.
abbrev pub HasDuration : List Node → List Times → Rank → Type 0
HasDuration nodes times rank =
    (node : Node) × (slice_get nodes rank.position ≡ Some node) × (took : ℕ) × (duration_of times node.number ≡ Some took) × (rank.value ≡ cut took)

-- The value of a rank is how long the recipe at its position ran alone among these.
abbrev pub HasTimeAlone : List Span → Rank → Type 0
HasTimeAlone recipes rank =
    (span : Span) × Contains recipes span × (span.position ≡ rank.position) × (rank.value ≡ cut (alone recipes span))

-- The value of a rank is the number of warnings of the target at its position.
abbrev pub HasWarnings : List Node → Rank → Type 0
HasWarnings nodes rank = (node : Node) × (slice_get nodes rank.position ≡ Some node) × (rank.value ≡ node.warnings)

-- The value of a rank is the most memory that one process of the recipe at its position had.
abbrev pub HasMemory : List Node → List RecipeFacts → Rank → Type 0
HasMemory nodes facts rank =
    (node : Node) × (slice_get nodes rank.position ≡ Some node) × (usage : Usage) × (usage_at facts node.number ≡ Some usage)
    × (rank.value ≡ usage.peak_kb)
