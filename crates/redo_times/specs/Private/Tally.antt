-- The times of targets, as they were found so far.
use Rattle.std.specs.Prelude.{◌≡◌, ℕ, List, [], ◌∷◌, ◌++◌, Option, Some, map, take}
use Rattle.std.specs.List.{list_any}
use Rattle.std.specs.Option.{option_or}
use Rattle.redo_device.specs.Feed.{Stream}
use Rattle.redo_line.specs.Lines.{ended}
use Rattle.redo_times.specs.declared.report.Report.{Report}
use Rattle.redo_times.specs.declared.report.Stage.{Stage}
use Rattle.redo_times.specs.declared.report.Stage.TheVariants.{BeganInOwnLog, BeganInOtherLog, EndedInOwnLog, EndedInOtherLog, RunsOther}
use Rattle.redo_times.specs.declared.times.Times.{Times}
use Rattle.redo_times.specs.Readers.{SomeStreams, logs_of}
use Rattle.redo_times.specs.Report.{reports_in, reports_of}
use Rattle.redo_times.specs.Times.{before_end, earlier, first_time, is_within, last_time, later, times_at, unless_begun}

-- The times of a target, as they were found so far.
pub record TallyValue : Type 0 where
  pub began_in_own_log : Option ℕ
  pub began_in_other_log : Option ℕ
  pub ended_in_own_log : Option ℕ
  pub ended_in_other_log : Option ℕ
  pub ran_others_at : List ℕ

-- The tally of a target, by these reports.
abbrev pub tally_of : List Report → List ℕ → TallyValue
tally_of reports target = record {
  began_in_own_log = first_time (times_at BeganInOwnLog target reports);
  began_in_other_log = first_time (times_at BeganInOtherLog target reports);
  ended_in_own_log = last_time (times_at EndedInOwnLog target reports);
  ended_in_other_log = last_time (times_at EndedInOtherLog target reports);
  ran_others_at = times_at RunsOther target reports;
}

-- The targets have these tallies, by these reports.
abbrev pub AreTallies : List (List ℕ) → List Report → List TallyValue → Type 0
AreTallies targets reports tallies = tallies ≡ map (tally_of reports) targets

abbrev pub begin_of_tally : TallyValue → Option ℕ
begin_of_tally tally = option_or tally.began_in_own_log tally.began_in_other_log

abbrev pub end_of : TallyValue → Option ℕ
end_of tally = option_or tally.ended_in_own_log (unless_begun tally.began_in_own_log tally.ended_in_other_log)

abbrev pub times_from : TallyValue → Times
times_from tally = record {
  began = before_end (begin_of_tally tally) (end_of tally);
  ended = end_of tally;
  ran_others = list_any (is_within (begin_of_tally tally) (end_of tally)) tally.ran_others_at;
}

-- A tally with one more time at which the target reached a stage.
abbrev pub with_time : Stage → ℕ → TallyValue → TallyValue
with_time BeganInOwnLog time tally = record tally { began_in_own_log = Some (earlier time tally.began_in_own_log) }
with_time BeganInOtherLog time tally = record tally { began_in_other_log = Some (earlier time tally.began_in_other_log) }
with_time EndedInOwnLog time tally = record tally { ended_in_own_log = Some (later time tally.ended_in_own_log) }
with_time EndedInOtherLog time tally = record tally { ended_in_other_log = Some (later time tally.ended_in_other_log) }
with_time RunsOther time tally = record tally { ran_others_at = tally.ran_others_at ++ time ∷ [] }

-- The targets have these tallies, by some reports and then by the ended lines of these bytes of the log of `log`.
abbrev pub AreTalliesAfter : List (List ℕ) → List ℕ → List Report → List ℕ → List TallyValue → Type 0
AreTalliesAfter targets log reports bytes tallies = AreTallies targets (reports ++ reports_in log (ended bytes)) tallies

-- The targets have these tallies, by some reports and then by the log of `log` with this stream.
abbrev pub AreTalliesOfStream : List (List ℕ) → List ℕ → List Report → ℕ → Stream → List TallyValue → Type 0
AreTalliesOfStream targets log reports max_bytes stream tallies = AreTalliesAfter targets log reports (take max_bytes stream.bytes) tallies

-- These are the tallies of the targets by the logs of some streams that the readers may give.
abbrev pub AreTalliesOfReaders : ℕ → List (List ℕ) → List (Option Stream) → List TallyValue → Type 0
AreTalliesOfReaders max_bytes targets known tallies = SomeStreams known (λ streams. AreTallies targets (reports_of max_bytes (logs_of targets streams)) tallies)
