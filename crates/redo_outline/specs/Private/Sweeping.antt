-- The state of a sweep: facts about the contents of logs, and about the logs that are opened in them, as brackets are added before
-- them.
use Rattle.std.specs.Prelude.{ℕ, ◌+◌, ◌≤◌, Bool, true, false, not, ◌&&◌, ◌||◌, ℤ, List, [], ◌∷◌, ◌++◌, Option, None, Some, length, reverse, slice_index_or, if◌then◌else◌}
use Rattle.std.specs.List.{AllByRecursion, sum_by}
use Rattle.std.specs.Option.{option_or}
use Rattle.redo_logs.specs.Logs.{Log}
use Rattle.redo_outline.specs.declared.collector.Bracket.{Bracket}
use Rattle.redo_outline.specs.declared.collector.OpenedLog.{OpenedLog}
use Rattle.redo_outline.specs.declared.facts.LogFacts.{LogFacts}
use Rattle.redo_outline.specs.declared.node.Node.{Node}
use Rattle.redo_outline.specs.declared.sweep.Summary.{Summary}
use Rattle.redo_outline.specs.Facts.{entries_at, is_failure, saturated, status_in_log}
use Rattle.redo_outline.specs.Outline.{without_warnings}
use Rattle.redo_outline.specs.Private.Collecting.{Collected}
use Rattle.redo_outline.specs.Private.LogFacts.{facts_of}

pub record Swept : Type 0 where
  pub logs : List Log
  -- Whether warnings are counted.
  pub with_warnings : Bool
  pub statuses : List (Option ℤ)
  -- The logs that are opened before.
  pub opened : List OpenedLog
  -- The summaries of the rest of the innermost log, and of the logs around it, the outermost first.
  pub inner : Summary
  pub outer : List Summary
  -- The nodes of the logs that were opened, in reverse.
  pub nodes : List Node

-- The summary of a log in which nothing follows.
abbrev pub nothing_left : Summary
nothing_left = record { below = 0; children = 0; others = false; warnings = 0; fails = false; silent = true; silent_logs = 0 }

-- The summary after something visible that is no log was added before it.
abbrev pub with_others : Summary → Summary
with_others rest = record rest { others = true; silent = false; silent_logs = 0 }

abbrev pub with_others_if : Bool → Summary → Summary
with_others_if visible rest = if visible then with_others rest else rest

-- Whether a log is silent: its target did not fail, and nothing but silent logs is visible in it.
abbrev pub is_silent_log : Option ℤ → Summary → Bool
is_silent_log status inside = not (is_failure status) && inside.silent

-- The node of a log, from its facts, its target's status, and the summaries of its contents and of the rest after it.
abbrev pub node_from : OpenedLog → LogFacts → Option ℤ → Summary → Summary → Node
node_from log facts status inside rest = record {
  number = log.number;
  parent = log.parent;
  status = status;
  lines = facts.lines;
  bytes = facts.bytes;
  warnings = facts.warnings;
  below = inside.below;
  children = inside.children;
  others = inside.others;
  warnings_below = inside.warnings;
  fails_below = inside.fails;
  silent = (if is_silent_log status inside then rest.silent_logs + 1 else 0);
  took = None;
  ended = None;
}

-- The summary of a log from the opening of a log in it on.
abbrev pub with_log : Node → Summary → Summary → Summary
with_log node inside rest = record {
  below = inside.below + rest.below + 1;
  children = rest.children + 1;
  others = rest.others;
  warnings = saturated (node.warnings + (inside.warnings + rest.warnings));
  fails = is_failure node.status || (inside.fails || rest.fails);
  silent = is_silent_log node.status inside && rest.silent;
  silent_logs = node.silent;
}

-- The items before the last one, and the last one.
abbrev pub put_before : {A : Type 0} → A → Option (List A × A) → List A × A
put_before x None = ([], x)
put_before x (Some split) = (x ∷ split.0, split.1)

abbrev pub split_last : {A : Type 0} → List A → Option (List A × A)
split_last [] = None
split_last (x ∷ xs) = Some (put_before x (split_last xs))

-- The log around the innermost one; nothing follows in it if there is none.
abbrev pub last_or_nothing : Option (List Summary × Summary) → Summary
last_or_nothing None = nothing_left
last_or_nothing (Some split) = split.1

abbrev pub others_of : Option (List Summary × Summary) → List Summary
others_of None = []
others_of (Some split) = split.0

module _ (logs : List Log) (statuses : List (Option ℤ)) where
  abbrev pub status_of : ℕ → Option ℤ
  status_of number = option_or (status_in_log (entries_at number logs)) (slice_index_or statuses number None)

  abbrev pub node_at : Bool → OpenedLog → Summary → Summary → Node
  node_at with_warnings log inside rest =
      node_from log (facts_of with_warnings (entries_at log.number logs)) (status_of log.number) inside rest

-- The end of a log is added.
abbrev pub end_added : Swept → Swept
end_added swept = record swept { inner = nothing_left; outer = swept.outer ++ swept.inner ∷ [] }

abbrev pub opening_added_to : OpenedLog → List OpenedLog → Summary → List Summary → Swept → Swept
opening_added_to log opened rest outer swept =
    let node = node_at swept.logs swept.statuses swept.with_warnings log swept.inner rest in
    record {
      logs = swept.logs;
      with_warnings = swept.with_warnings;
      statuses = swept.statuses;
      opened = opened;
      inner = with_log node swept.inner rest;
      outer = outer;
      nodes = swept.nodes ++ node ∷ [];
    }

abbrev pub opening_added_at : Option (List OpenedLog × OpenedLog) → Swept → Swept
opening_added_at None swept = swept
opening_added_at (Some split) swept =
    opening_added_to split.1 split.0 (last_or_nothing (split_last swept.outer)) (others_of (split_last swept.outer)) swept

-- The opening of a log is added.
abbrev pub opening_added : Swept → Swept
opening_added swept = opening_added_at (split_last swept.opened) swept

abbrev pub others_added : Bool → Swept → Swept
others_added visible swept = record swept { inner = with_others_if visible swept.inner }

abbrev pub bracket_added : Bracket → Swept → Swept
bracket_added bracket swept = others_added bracket.after_others (if bracket.opens then opening_added swept else end_added swept)

-- All brackets are added, the last one first.
abbrev pub brackets_added : List Bracket → Swept → Swept
brackets_added [] swept = swept
brackets_added (bracket ∷ brackets) swept = bracket_added bracket (brackets_added brackets swept)

-- A sweep begins after the last bracket.
abbrev pub sweep_begun : List Log → List (Option ℤ) → List OpenedLog → Bool → Bool → Swept
sweep_begun logs statuses opened after_others with_warnings = record {
  logs = logs;
  with_warnings = with_warnings;
  statuses = statuses;
  opened = opened;
  inner = with_others_if after_others nothing_left;
  outer = [];
  nodes = [];
}

-- A node. Unless warnings are counted, their numbers are 0.
abbrev pub without_warnings_unless : Bool → Node → Node
without_warnings_unless counted node = if counted then node else without_warnings node

-- The nodes of all logs that a collector saw.
abbrev pub collected_nodes : Bool → Collected → List Node
collected_nodes with_warnings collected =
    let begun = sweep_begun collected.logs collected.statuses collected.opened collected.after_others with_warnings in
    reverse (brackets_added collected.brackets begun).nodes

-- Whether the counts of a log in a row or directly in a log don't exceed the number of logs.
pub record IsCounted (rest : Summary) : Type 0 where
  pub children : rest.children ≤ rest.below
  pub silent_logs : rest.silent_logs ≤ rest.below

-- Whether no node is counted below two of these logs.
pub record AreCounted (inner : Summary) (outer : List Summary) (nodes : List Node) : Type 0 where
  pub total : inner.below + sum_by (λ (rest : Summary). rest.below) outer ≤ length nodes
  pub inner_is : IsCounted inner
  pub outer_are : AllByRecursion IsCounted outer
