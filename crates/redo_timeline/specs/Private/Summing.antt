-- When spans begin or end, and how long spans ran alone until then.
use Rattle.std.specs.Prelude.{ℕ, List, ◌++◌}
use Rattle.redo_timeline.specs.declared.span.Span.{Span}
use Rattle.redo_timeline.specs.Alone.{time_running}
use Rattle.redo_timeline.specs.Private.Counting.{begins_of, ends_of_spans}

-- The times at which a span begins or ends.
abbrev pub points_of : List Span → List ℕ
points_of spans = begins_of spans ++ ends_of_spans spans

-- How long exactly one span runs until a time.
abbrev pub alone_until : List Span → ℕ → ℕ
alone_until spans time = time_running spans 1 0 time
