-- How long each span runs alone, in milliseconds.
use Rattle.std.specs.Prelude.{ℕ, zero, suc, ◌+◌, ◌-◌, ◌==◌, Bool, List, map, if◌then◌else◌}
use Rattle.std.specs.List.{count_by}
use Rattle.redo_timeline.specs.declared.span.Span.{Span}
use Rattle.redo_timeline.specs.Parallelism.{runs_at}

-- The number of spans that run at a time.
abbrev pub running_at : List Span → ℕ → ℕ
running_at spans time = count_by (runs_at time) spans

-- The number of milliseconds at which something holds, in a window that begins at this time and has this width.
abbrev pub time_with : (ℕ → Bool) → ℕ → ℕ → ℕ
time_with holds began zero = 0
time_with holds began (suc width) = (if holds began then 1 else 0) + time_with holds (began + 1) width

-- How long exactly `count` of the spans run in such a window.
abbrev pub time_running : List Span → ℕ → ℕ → ℕ → ℕ
time_running spans count began width = time_with (λ time. running_at spans time == count) began width

-- How long one of the spans runs alone: for how long, from when it begins until it ends, exactly one of the spans runs.
abbrev pub alone : List Span → Span → ℕ
alone spans span = time_running spans 1 span.began (span.ended - span.began)

-- How long each of the spans runs alone.
abbrev pub times_alone : List Span → List ℕ
times_alone spans = map (alone spans) spans
