-- When the targets of logs ran.
use Rattle.std.specs.Prelude.{ℕ, ◌-◌, false, List, Option, None, Some, slice_index_or}
use Rattle.redo_times.specs.declared.times.Times.{Times}

-- The times of a target without any known time.
abbrev pub no_times : Times
no_times = record { began = None; ended = None; ran_others = false }

-- The times of the target of the log with this number. Nothing is known of a target past the end of the list.
abbrev pub times_of : List Times → ℕ → Times
times_of times number = slice_index_or times number no_times

-- How long it is from one time to another, if both are known.
abbrev pub time_between : Option ℕ → Option ℕ → Option ℕ
time_between (Some began) (Some ended) = Some (ended - began)
time_between began ended = None

-- How long the target of the log with this number took.
abbrev pub duration_of : List Times → ℕ → Option ℕ
duration_of times number = time_between (times_of times number).began (times_of times number).ended
