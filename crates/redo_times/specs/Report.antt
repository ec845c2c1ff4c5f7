-- The reports of the records of logs about targets: that one began or ended, and when.
use Rattle.std.specs.Prelude.{ℕ, true, List, [], ◌∷◌, Option, None, Some, map, option_and_then, take, if◌then◌else◌}
use Rattle.std.specs.List.{flat_map}
use Rattle.std.specs.Str.{bytes_eq}
use Rattle.redo_line.specs.declared.entry.Entry.{Entry}
use Rattle.redo_line.specs.declared.entry.Entry.TheVariants.{Text, Mention, Done, Closing, Note}
use Rattle.redo_line.specs.declared.entry.How.TheVariants.{Made, Waiting, Locked, Unlocked, Unchanged}
use Rattle.redo_line.specs.Entry.{entry_of}
use Rattle.redo_line.specs.Lines.{ended}
use Rattle.redo_line.specs.Record.{Fields, record_fields}
use Rattle.redo_times.specs.declared.report.Report.{Report}
use Rattle.redo_times.specs.declared.report.Stage.{Stage}
use Rattle.redo_times.specs.declared.report.Stage.TheVariants.{BeganInOwnLog, BeganInOtherLog, EndedInOwnLog, EndedInOtherLog, RunsOther}
use Rattle.redo_times.specs.Time.{time_value}

-- A log whose times are read: its target, and the bytes of its stream.
pub record TimedLog : Type 0 where
  pub target : List ℕ
  pub bytes : List ℕ

-- The stage that a `do` record in the log of `target` reports of a target.
abbrev pub begin_stage : List ℕ → List ℕ → Stage
begin_stage target name = if bytes_eq name target then BeganInOwnLog else BeganInOtherLog

-- The log of `target` mentions a target: `target` runs it, or waits for it, if it is another one.
abbrev pub other_stages : List ℕ → List ℕ → List (Stage × List ℕ)
other_stages target name = if bytes_eq name target then [] else (RunsOther, target) ∷ []

-- The stages that an entry in the log of `target` reports, each with its target. `do` says that a target began, `done` that it ended.
abbrev pub stages_of : List ℕ → Entry → List (Stage × List ℕ)
stages_of target (Mention pid Made name) = (begin_stage target name, name) ∷ other_stages target name
stages_of target (Mention pid Waiting name) = other_stages target name
stages_of target (Mention pid Locked name) = other_stages target name
stages_of target (Mention pid Unlocked name) = other_stages target name
stages_of target (Mention pid Unchanged name) = []
stages_of target (Done pid status name) = (EndedInOtherLog, name) ∷ (RunsOther, target) ∷ []
stages_of target (Closing pid status) = (EndedInOwnLog, target) ∷ []
stages_of target (Text line) = []
stages_of target (Note pid kind text) = []

-- The stages that an entry reports, if there is one.
abbrev pub stages_if : List ℕ → Option Entry → List (Stage × List ℕ)
stages_if target None = []
stages_if target (Some entry) = stages_of target entry

-- The stages that an ended line in the log of `target` reports.
abbrev pub line_stages : List ℕ → List ℕ → List (Stage × List ℕ)
line_stages target line = stages_if target (entry_of target line true)

-- The time of a line, if it is a record.
abbrev pub line_time : List ℕ → Option ℕ
line_time line = option_and_then (λ (fields : Fields). time_value fields.time) (record_fields line)

-- The report that a target reached a stage at this time.
abbrev pub report_at : ℕ → Stage × List ℕ → Report
report_at time said = record { stage = said.0; target = said.1; time = time }

-- The reports that targets reached these stages at a time, if it is known.
abbrev pub reports_at : Option ℕ → List (Stage × List ℕ) → List Report
reports_at None said = []
reports_at (Some time) said = map (report_at time) said

-- The reports of an ended line in the log of `target`. There are none unless the line is a record with a time that counts.
unfoldable pub line_reports : List ℕ → List ℕ → List Report
line_reports target line = reports_at (line_time line) (line_stages target line)

-- The reports of some lines in the log of `target`.
abbrev pub reports_in : List ℕ → List (List ℕ) → List Report
reports_in target lines = flat_map (line_reports target) lines

-- The reports of a log, by its ended lines within the first `max_bytes` bytes.
abbrev pub log_reports : ℕ → TimedLog → List Report
log_reports max_bytes log = reports_in log.target (ended (take max_bytes log.bytes))

-- The reports of all logs.
abbrev pub reports_of : ℕ → List TimedLog → List Report
reports_of max_bytes logs = flat_map (log_reports max_bytes) logs
