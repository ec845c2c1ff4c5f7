-- Definitions that state the laws about times.
use Rattle.std.specs.Prelude.{◌≡◌, ℕ, ◌<◌, ◌≤◌, ◌⊎◌, List, Option, Some, IsSomeAnd, take}
use Rattle.std.specs.List.{Contains}
use Rattle.redo_line.specs.Lines.{ended}
use Rattle.redo_times.specs.declared.report.Stage.{Stage}
use Rattle.redo_times.specs.declared.report.Stage.TheVariants.{BeganInOwnLog, BeganInOtherLog, EndedInOwnLog, EndedInOtherLog, RunsOther}
use Rattle.redo_times.specs.declared.times.Times.{Times}
use Rattle.redo_times.specs.Report.{TimedLog, line_stages, line_time}

-- A record that ends within the first `max_bytes` bytes of one of these logs says that the target reached this stage at this time.
pub record IsReported (max_bytes : ℕ) (logs : List TimedLog) (stage : Stage) (target : List ℕ) (time : ℕ) : Type 0 where
  pub log : TimedLog
  pub is_log : Contains logs log
  pub line : List ℕ
  pub is_line : Contains (ended (take max_bytes log.bytes)) line
  pub says : Contains (line_stages log.target line) (stage, target)
  pub at : line_time line ≡ Some time

-- `Is` holds of this time, and of no earlier or later one.
pub record IsFirst (Is : ℕ → Type 0) (time : ℕ) : Type 0 where
  pub is : Is time
  pub none_earlier : (other : ℕ) → Is other → time ≤ other

pub record IsLast (Is : ℕ → Type 0) (time : ℕ) : Type 0 where
  pub is : Is time
  pub none_later : (other : ℕ) → Is other → other ≤ time

-- `Is` holds of no time.
abbrev pub Never : (ℕ → Type 0) → Type 0
Never Is = (time : ℕ) → Is time → ⊥

module _ (max_bytes : ℕ) (logs : List TimedLog) (target : List ℕ) where
  -- The target began at this time: the first one that its own log reports; if it reports none, the first one that another log reports.
  abbrev pub IsBeginning : ℕ → Type 0
  IsBeginning time =
      IsFirst (IsReported max_bytes logs BeganInOwnLog target) time
      ⊎ (Never (IsReported max_bytes logs BeganInOwnLog target) × IsFirst (IsReported max_bytes logs BeganInOtherLog target) time)

  -- The target ended at this time: the last one that its own log reports; if this reports neither a beginning nor an end, the last one that
  -- another log reports.
  abbrev pub IsEnd : ℕ → Type 0
  IsEnd time =
      IsLast (IsReported max_bytes logs EndedInOwnLog target) time
      ⊎ (Never (IsReported max_bytes logs EndedInOwnLog target) × Never (IsReported max_bytes logs BeganInOwnLog target)
      × IsLast (IsReported max_bytes logs EndedInOtherLog target) time)

  -- No log reports a beginning.
  abbrev pub NeverBegins : Type 0
  NeverBegins = Never (IsReported max_bytes logs BeganInOwnLog target) × Never (IsReported max_bytes logs BeganInOtherLog target)

  -- The end is known, and the beginning is after it.
  abbrev pub BeginsAfter : Option ℕ → Type 0
  BeginsAfter ended = (end time : ℕ) × (ended ≡ Some end) × IsBeginning time × (end < time)

  -- The target's own log reports a beginning.
  abbrev pub BeginsInOwnLog : Type 0
  BeginsInOwnLog = (time : ℕ) × IsReported max_bytes logs BeganInOwnLog target time

-- A target with these times ran others: its own log reports this at a time after the target began, and not after it ended.
pub record RanOthers (max_bytes : ℕ) (logs : List TimedLog) (target : List ℕ) (times : Times) (time : ℕ) : Type 0 where
  pub is_reported : IsReported max_bytes logs RunsOther target time
  pub after : IsSomeAnd times.began (λ began. began < time)
  pub until : IsSomeAnd times.ended (λ ended. time ≤ ended)
