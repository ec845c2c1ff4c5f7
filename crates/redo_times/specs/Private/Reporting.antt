-- The reports of single records.
use Rattle.std.specs.Prelude.{ℕ, true, List, [], ◌∷◌, ◌++◌, Option, None, Some, option_and_then, option_map, if◌then◌else◌}
use Rattle.std.specs.Str.{bytes_eq}
use Rattle.redo_line.specs.declared.entry.Entry.{Entry}
use Rattle.redo_line.specs.declared.entry.Entry.TheVariants.{Text, Mention, Done, Closing, Note}
use Rattle.redo_line.specs.declared.entry.How.TheVariants.{Made, Waiting, Locked, Unlocked, Unchanged}
use Rattle.redo_line.specs.Entry.{entry_of}
use Rattle.redo_times.specs.declared.report.Report.{Report}
use Rattle.redo_times.specs.declared.report.Stage.{Stage}
use Rattle.redo_times.specs.declared.report.Stage.TheVariants.{BeganInOwnLog, EndedInOwnLog, EndedInOtherLog, RunsOther}
use Rattle.redo_times.specs.Report.{begin_stage, line_time, report_at}

-- The report of a `do` record in the log of `log`, from the normal form of its text.
abbrev pub begin_of : List ℕ → Option (List ℕ) → Option (Stage × List ℕ)
begin_of log name = option_map (λ target. (begin_stage log target, target)) name

-- What a record in the log of `log` says that mentions a target as one to wait for, from the normal form of its text.
abbrev pub wait_stage : List ℕ → List ℕ → Option (Stage × List ℕ)
wait_stage log name = if bytes_eq name log then None else Some (RunsOther, name)

abbrev pub wait_of : List ℕ → Option (List ℕ) → Option (Stage × List ℕ)
wait_of log name = option_and_then (wait_stage log) name

-- The stage that an entry in the log of `log` reports, and the target that the entry names.
abbrev pub stage_of : List ℕ → Entry → Option (Stage × List ℕ)
stage_of log (Mention pid Made name) = Some (begin_stage log name, name)
stage_of log (Mention pid Waiting name) = wait_stage log name
stage_of log (Mention pid Locked name) = wait_stage log name
stage_of log (Mention pid Unlocked name) = wait_stage log name
stage_of log (Mention pid Unchanged name) = None
stage_of log (Done pid status name) = Some (EndedInOtherLog, name)
stage_of log (Closing pid status) = Some (EndedInOwnLog, log)
stage_of log (Text line) = None
stage_of log (Note pid kind text) = None

-- The report that something happened at this time, if both are known.
abbrev pub report_if : Option ℕ → Option (Stage × List ℕ) → Option Report
report_if None said = None
report_if (Some time) None = None
report_if (Some time) (Some said) = Some (report_at time said)

-- The report of an ended line in the log of `log`, with the target that the line names.
unfoldable pub report_of : List ℕ → List ℕ → Option Report
report_of log line = report_if (line_time line) (option_and_then (stage_of log) (entry_of log line true))

-- What a report of this stage says of the target that it names.
abbrev pub named_reports : Report → Stage → List Report
named_reports report RunsOther = []
named_reports report stage = report ∷ []

-- What it says of the target whose log has it.
abbrev pub owner_reports : List ℕ → ℕ → Stage → List Report
owner_reports log time BeganInOwnLog = []
owner_reports log time EndedInOwnLog = []
owner_reports log time stage = report_at time (RunsOther, log) ∷ []

-- All that it says.
abbrev pub with_owner : List ℕ → Report → List Report
with_owner log report = named_reports report report.stage ++ owner_reports log report.time report.stage
