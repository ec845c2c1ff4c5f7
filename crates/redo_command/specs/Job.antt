-- What is written of a job.
use Rattle.std.specs.Prelude.{◌≡◌, ◌⊎◌, ℕ, List, [], Option, None, Some, Result, Ok, Err, IsErrAnd}
use Rattle.std.specs.Result.{result_and}
use Rattle.redo_device.specs.Feed.{Stream}
use Rattle.redo_device.specs.Sink.{Output}
use Rattle.redo_logs.specs.Logs.{Log}
use Rattle.redo_index.specs.declared.index_entry.IndexEntry.{IndexEntry}
use Rattle.redo_view.specs.Written.{WroteNothing}
use Rattle.redo_command.specs.declared.baseline_fault.BaselineFault.{BaselineFault}
use Rattle.redo_command.specs.declared.failure.Failure.{Failure}
use Rattle.redo_command.specs.declared.failure.Failure.TheVariants.{Baseline, Memory}
use Rattle.redo_command.specs.Logs.{IsWriteResult, logs_call}

-- Whether memory ran out before anything was written.
abbrev pub IsMemoryFailure : Option Output → Option Output → Result (Unit {0}) Failure → Type 0
IsMemoryFailure before after result = IsErrAnd result (λ failure. failure ≡ Memory) × WroteNothing before after

-- Whether this is a result of a job whose baseline has a fault. The job's own logs are read, but no text is written of them: a failure
-- of that is the result, and otherwise the fault of the baseline is.
abbrev pub IsBaselineReported : BaselineFault → (ℕ → Option Stream) → List IndexEntry → List (List ℕ) → Option Output → Option Output
    → Result (Unit {0}) Failure → Type 0
IsBaselineReported fault known index arguments before after result =
    (outcome : Result (Unit {0}) Failure) × IsWriteResult (logs_call known (λ logs requested. []) index arguments) before after outcome
    × (result ≡ result_and outcome (Err (Baseline fault)))

-- Whether this is a result of writing a text over an index, by what was read of a baseline: the text without a baseline, or the text
-- with its logs, or its fault.
abbrev pub IsTextWritten : (Option (List Log) → List Log → List (List ℕ) → List ℕ) → Option (Result (List Log) BaselineFault)
    → (ℕ → Option Stream) → List IndexEntry → List (List ℕ) → Option Output → Option Output → Result (Unit {0}) Failure → Type 0
IsTextWritten text None known index arguments before after result =
    IsWriteResult (logs_call known (text None) index arguments) before after result
IsTextWritten text (Some (Ok logs)) known index arguments before after result =
    IsWriteResult (logs_call known (text (Some logs)) index arguments) before after result
IsTextWritten text (Some (Err fault)) known index arguments before after result =
    IsBaselineReported fault known index arguments before after result

-- Whether this is a result of writing the text of a job over an index: the text has some facts of the job and its baseline, or memory
-- ran out before there were any. The facts come from one opening of the logs, and the text from another: the logs may change in
-- between. `known` is what is known of the log with each number when the text is written.
abbrev pub IsJobWritten : {Facts : Type 0} → (Facts → Type 0) → (Option (Result (List Log) BaselineFault) → Type 0)
    → (Facts → Option (List Log) → List Log → List (List ℕ) → List ℕ) → (ℕ → Option Stream) → List IndexEntry
    → List (List ℕ) → Option Output → Option Output → Result (Unit {0}) Failure → Type 0
IsJobWritten {Facts = Facts} AreFacts IsRead text known index arguments before after result =
    IsMemoryFailure before after result
    ⊎ ((facts : Facts) × AreFacts facts × (baseline : Option (Result (List Log) BaselineFault)) × IsRead baseline
    × IsTextWritten (text facts) baseline known index arguments before after result)
