-- The facts about the times of the shown targets.
use Rattle.std.specs.Prelude.{ℕ, ◌+◌, ◌*◌, Bool, ◌&&◌, leb, ltb, List, Option, length, sum_by}
use Rattle.redo_timeline.specs.declared.span.Span.{Span}
use Rattle.redo_timeline.specs.declared.span.Window.{Window}
use Rattle.redo_timeline.specs.Parallelism.{most_of}
use Rattle.redo_times.specs.declared.times.Times.{Times}
use Rattle.redo_outline.specs.declared.node.Node.{Node}
use Rattle.redo_outline.specs.Facts.{saturated}
use Rattle.redo_summary.specs.declared.rank.Rank.{Rank}
use Rattle.redo_summary.specs.declared.target.Target.{Target}
use Rattle.redo_summary.specs.Ranks.{duration, longest_alone, longest_of, most_warned}
use Rattle.redo_summary.specs.Spans.{callers_of, marks_of, recipes_of, targets_of}
use Rattle.redo_summary.specs.Window.{known_times, time_over, window_over}

pub record Facts : Type 0 where
  -- The time from the first to the last known time, and its length. The window is at least one millisecond wide.
  pub window : Option Window
  pub took : ℕ
  -- The spans of the targets that ran others, all other spans, and the marks.
  pub callers : List Span
  pub recipes : List Span
  pub marks : List Span
  -- How long all recipes took, one after another, and how many ran at once, at most.
  pub sum : ℕ
  pub most : ℕ
  -- The numbers of warnings, and of bytes of text, in all logs.
  pub warnings : ℕ
  pub bytes : ℕ
  -- The ten recipes that took longest, those that ran alone for the longest time, and the ten targets with the most warnings.
  pub longest : List Rank
  pub alone : List Rank
  pub warned : List Rank

-- The sum of the counts of all items, as it fits into 64 bits.
abbrev pub total : {X : Type 0} → (X → ℕ) → List X → ℕ
total count items = saturated (sum_by count items)

-- How long some recipes took, one after another.
abbrev pub sum_of : List Span → ℕ
sum_of recipes = total duration recipes

-- The numbers of warnings, and of bytes of text.
abbrev pub warnings_of : List Node → ℕ
warnings_of nodes = total (λ (node : Node). node.warnings) nodes

abbrev pub bytes_of : List Node → ℕ
bytes_of nodes = total (λ (node : Node). node.bytes) nodes

-- The facts about some nodes and their targets.
abbrev pub facts_of : List Node → List Target → Facts
facts_of nodes targets = record {
  window = window_over (known_times targets);
  took = time_over (known_times targets);
  callers = callers_of targets;
  recipes = recipes_of targets;
  marks = marks_of targets;
  sum = sum_of (recipes_of targets);
  most = most_of (recipes_of targets);
  warnings = warnings_of nodes;
  bytes = bytes_of nodes;
  longest = longest_of (recipes_of targets);
  alone = longest_alone (recipes_of targets);
  warned = most_warned nodes;
}

abbrev pub summary_of : List Node → List Times → Facts
summary_of nodes times = facts_of nodes (targets_of nodes times)

-- Whether there is a timeline: there is a span, and at most a tenth of the spans and marks are marks.
abbrev pub is_timed : Facts → Bool
is_timed facts =
    ltb 0 (length facts.callers + length facts.recipes)
    && leb (length facts.marks * 10) (length facts.callers + length facts.recipes + length facts.marks)
