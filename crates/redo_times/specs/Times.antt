-- When a target began and ended.
use Rattle.std.specs.Prelude.{ℕ, nat_le, nat_lt, Bool, true, false, ◌&&◌, List, [], ◌∷◌, Option, None, Some, IfSome, min, max, filter_map, if◌then◌else◌}
use Rattle.std.specs.List.{list_any}
use Rattle.std.specs.Option.{option_or}
use Rattle.std.specs.Str.{bytes_eq}
use Rattle.redo_times.specs.declared.report.Report.{Report}
use Rattle.redo_times.specs.declared.report.Stage.{Stage}
use Rattle.redo_times.specs.declared.report.Stage.TheVariants.{BeganInOwnLog, BeganInOtherLog, EndedInOwnLog, EndedInOtherLog, RunsOther}
use Rattle.redo_times.specs.declared.times.Times.{Times}
use Rattle.redo_times.specs.Report.{TimedLog, reports_of}
use Rattle.redo_times.specs.Time.{IsInRange}

abbrev pub earlier : ℕ → Option ℕ → ℕ
earlier time None = time
earlier time (Some other) = min time other

abbrev pub later : ℕ → Option ℕ → ℕ
later time None = time
later time (Some other) = max time other

-- The first and the last of these times, if there are any.
abbrev pub first_time : List ℕ → Option ℕ
first_time [] = None
first_time (time ∷ times) = Some (earlier time (first_time times))

abbrev pub last_time : List ℕ → Option ℕ
last_time [] = None
last_time (time ∷ times) = Some (later time (last_time times))

abbrev pub is_same_stage : Stage → Stage → Bool
is_same_stage BeganInOwnLog BeganInOwnLog = true
is_same_stage BeganInOtherLog BeganInOtherLog = true
is_same_stage EndedInOwnLog EndedInOwnLog = true
is_same_stage EndedInOtherLog EndedInOtherLog = true
is_same_stage RunsOther RunsOther = true
is_same_stage stage other = false

-- The time of a report, if it says that this target reached this stage.
abbrev pub time_if : Stage → List ℕ → Report → Option ℕ
time_if stage target report = if is_same_stage report.stage stage && bytes_eq report.target target then Some report.time else None

-- The times at which some reports say that a target reached this stage.
abbrev pub times_at : Stage → List ℕ → List Report → List ℕ
times_at stage target reports = filter_map (time_if stage target) reports

-- The time of a beginning. It is unknown if it is after the end: the clock was set in between.
abbrev pub before_end : Option ℕ → Option ℕ → Option ℕ
before_end None ended = None
before_end (Some began) None = Some began
before_end (Some began) (Some ended) = if nat_le began ended then Some began else None

-- When a target began: as its own log says, or else as other logs say.
abbrev pub begin_in : List Report → List ℕ → Option ℕ
begin_in reports target =
    option_or (first_time (times_at BeganInOwnLog target reports)) (first_time (times_at BeganInOtherLog target reports))

-- The end of which other logs say, unless the target's own log says when it began: then they may be of an earlier build.
abbrev pub unless_begun : Option ℕ → Option ℕ → Option ℕ
unless_begun None ended = ended
unless_begun (Some began) ended = None

-- When a target ended: as its own log says, or else as other logs say.
abbrev pub end_in : List Report → List ℕ → Option ℕ
end_in reports target =
    option_or (last_time (times_at EndedInOwnLog target reports))
    (unless_begun (first_time (times_at BeganInOwnLog target reports)) (last_time (times_at EndedInOtherLog target reports)))

-- Whether a time is after a beginning, and not after an end. Both must be known.
abbrev pub is_within : Option ℕ → Option ℕ → ℕ → Bool
is_within (Some began) (Some ended) time = nat_lt began time && nat_le time ended
is_within began ended time = false

-- Whether a target ran others, or waited for them, while it ran, as its own log says.
abbrev pub ran_others_in : List Report → List ℕ → Bool
ran_others_in reports target = list_any (is_within (begin_in reports target) (end_in reports target)) (times_at RunsOther target reports)

-- When a target began and ended, and whether it ran others, by these reports.
abbrev pub times_in : List Report → List ℕ → Times
times_in reports target = record {
  began = before_end (begin_in reports target) (end_in reports target);
  ended = end_in reports target;
  ran_others = ran_others_in reports target;
}

-- When a target began and ended, and whether it ran others, by these logs.
abbrev pub times_of : ℕ → List TimedLog → List ℕ → Times
times_of max_bytes logs target = times_in (reports_of max_bytes logs) target

-- Whether both times are in the range of values of a record's time.
abbrev pub AreInRange : Times → Type 0
AreInRange times = IfSome times.began IsInRange × IfSome times.ended IsInRange
