-- The spans and marks of the shown targets.
use Rattle.std.specs.Prelude.{ℕ, ◌+◌, List, [], ◌∷◌, Option, None, Some, filter_map, option_map, if◌then◌else◌}
use Rattle.redo_timeline.specs.declared.span.Span.{Span}
use Rattle.redo_times.specs.declared.times.Times.{Times}
use Rattle.redo_outline.specs.declared.node.Node.{Node}
use Rattle.redo_outline.specs.Facts.{is_failure}
use Rattle.redo_summary.specs.declared.target.Target.{Target}
use Rattle.redo_summary.specs.Targets.{times_of}

-- The target of a node at this position.
abbrev pub target_of : List Times → ℕ → Node → Target
target_of times position node = record {
  position = position;
  parent = node.parent;
  failed = is_failure node.status;
  times = times_of times node.number;
}

-- The targets of some nodes. The first node has this position.
abbrev pub targets_from : List Times → ℕ → List Node → List Target
targets_from times position [] = []
targets_from times position (node ∷ nodes) = target_of times position node ∷ targets_from times (position + 1) nodes

-- The shown targets.
abbrev pub targets_of : List Node → List Times → List Target
targets_of nodes times = targets_from times 0 nodes

-- The span of a target from one time to another.
abbrev pub span_between : Target → ℕ → ℕ → Span
span_between target began ended = record { began = began; position = target.position; ended = ended; failed = target.failed }

-- The span of a target, by both times.
abbrev pub span_if : Target → Option ℕ → Option ℕ → Option Span
span_if target (Some began) (Some ended) = Some (span_between target began ended)
span_if target began ended = None

-- When a target began and ended, if both are known.
abbrev pub span_of : Target → Option Span
span_of target = span_if target target.times.began target.times.ended

-- The one time that is known of a target, by the position of its parent and both times. A requested target has no parent. If only its end
-- is known, there is no such time: the log of a run by make may say no more.
abbrev pub only_time : Option ℕ → Option ℕ → Option ℕ → Option ℕ
only_time parent (Some began) None = Some began
only_time (Some parent) None (Some ended) = Some ended
only_time parent began ended = None

-- The one time that is known of a target, as a span.
abbrev pub mark_of : Target → Option Span
mark_of target = option_map (λ time. span_between target time time) (only_time target.parent target.times.began target.times.ended)

-- The span of a target that ran others, or of one that ran none.
abbrev pub caller_span : Target → Option Span
caller_span target = if target.times.ran_others then span_of target else None

abbrev pub recipe_span : Target → Option Span
recipe_span target = if target.times.ran_others then None else span_of target

-- The spans of targets, in order of position: of all, of those that ran others, and of all others.
abbrev pub spans_of : List Target → List Span
spans_of targets = filter_map span_of targets

abbrev pub callers_of : List Target → List Span
callers_of targets = filter_map caller_span targets

abbrev pub recipes_of : List Target → List Span
recipes_of targets = filter_map recipe_span targets

-- The marks of targets, in order of position.
abbrev pub marks_of : List Target → List Span
marks_of targets = filter_map mark_of targets
