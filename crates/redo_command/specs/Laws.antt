-- What the law about baselines states.
use Rattle.std.specs.Prelude.{ℕ, List, [], Option, Result, Err}
use Rattle.redo_device.specs.Feed.{Stream}
use Rattle.redo_device.specs.Sink.{Output}
use Rattle.redo_logs.specs.Logs.{Log}
use Rattle.redo_index.specs.declared.index_entry.IndexEntry.{IndexEntry}
use Rattle.redo_run.specs.Rendered.{SomeRenderedText}
use Rattle.redo_view.specs.Written.{WroteNothing}
use Rattle.redo_command.specs.declared.baseline_fault.BaselineFault.{BaselineFault}
use Rattle.redo_command.specs.declared.failure.Failure.TheVariants.{Baseline}
use Rattle.redo_command.specs.Job.{IsTextWritten}
use Rattle.redo_command.specs.Logs.{logs_call}

-- Whether the fault of a baseline is a result of writing some text, by what was read of a baseline.
abbrev pub FailsByBaseline : Option (Result (List Log) BaselineFault) → (ℕ → Option Stream) → List IndexEntry → List (List ℕ)
    → Option Output → Option Output → BaselineFault → Type 0
FailsByBaseline baseline known index arguments before after fault =
    (text : Option (List Log) → List Log → List (List ℕ) → List ℕ)
    × IsTextWritten text baseline known index arguments before after (Err (Baseline fault))

-- Whether the logs that an index lists may have a text: none has a fault, and no argument is unknown. Nothing was written of it.
abbrev pub HasTextAndWroteNothing : (ℕ → Option Stream) → List IndexEntry → List (List ℕ) → Option Output → Option Output → Type 0
HasTextAndWroteNothing known index arguments before after =
    SomeRenderedText (logs_call known (λ logs requested. []) index arguments) (λ text. WroteNothing before after)
