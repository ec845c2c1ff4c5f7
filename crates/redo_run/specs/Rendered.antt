-- Runs whose text is any text of the logs, such as a page.
use Rattle.std.specs.Prelude.{◌≡◌, ℕ, List, Option, Some, Result, Ok, Err}
use Rattle.std.specs.Option.{option_map}
use Rattle.std.specs.Global.{Vec}
use Rattle.redo_device.specs.Feed.{Stream}
use Rattle.redo_line.specs.Source.{StreamInput}
use Rattle.redo_logs.specs.Logs.{Log}
use Rattle.redo_gather.specs.Streams.{KnownInput, SomeMatchingStreams, fault_among, known_inputs, logs_of}
use Rattle.redo_options.specs.Arguments.{argument_bytes}
use Rattle.redo_view.specs.Expansion.{expansion}
use Rattle.redo_index.specs.declared.index_entry.IndexEntry.{IndexEntry}
use Rattle.redo_index.specs.Index.{listed_targets, must_close_flags}
use Rattle.redo_run.specs.declared.run_fault.RunFault.{RunFault}
use Rattle.redo_run.specs.declared.run_fault.RunFault.TheVariants as fault
use Rattle.redo_run.specs.Run.{fault_or, find_targets, unknown_argument}
use Rattle.redo_run.specs.Outcome.{Call}

-- A call of `run_as`: the text, from the logs and the requested targets; all targets, the maximum number of bytes of a stream, and
-- the arguments that name the requested targets; and the known streams of the readers.
pub record RenderCall : Type 0 where
  pub text : List Log → List (List ℕ) → List ℕ
  pub targets : List (List ℕ)
  pub max_bytes : ℕ
  pub arguments : List (List ℕ)
  pub inputs : List KnownInput

abbrev pub render_call : {A : Type 0} → (List Log → List (List ℕ) → List ℕ) → (A → Option Stream) → List IndexEntry → List A → ℕ → List (Vec ℕ) → RenderCall
render_call text contents index readers max_bytes arguments = record {
  text = text;
  targets = listed_targets index;
  max_bytes = max_bytes;
  arguments = argument_bytes arguments;
  inputs = known_inputs contents (must_close_flags index) readers;
}

-- A call of `run`, as a call of `run_as`: its text is the expansion.
abbrev pub expansion_call : Call → RenderCall
expansion_call call = record {
  text = λ logs requested. expansion logs call.request.options requested;
  targets = call.request.targets;
  max_bytes = call.request.max_bytes;
  arguments = call.request.arguments;
  inputs = call.inputs;
}

-- The result of a call with these streams of its targets: the first unknown argument, if there is one. Otherwise the
-- lowest-numbered stream that has a fault, with the fault. Otherwise the text of the streams' logs at the requested targets.
abbrev pub rendered_result : RenderCall → List (StreamInput Stream) → Option (Result (List ℕ) RunFault)
rendered_result call streams =
    fault_or (option_map fault.Unknown (unknown_argument call.targets call.arguments))
    (fault_or (option_map (λ found. fault.Stream found.0 found.1) (fault_among call.max_bytes call.targets streams))
    (option_map (λ (logs : List Log). Ok (call.text logs (find_targets call.targets call.arguments))) (logs_of call.max_bytes call.targets streams)))

-- `P` holds of the text that is the call's result, for some streams that its readers may give.
abbrev pub SomeRenderedText : RenderCall → (List ℕ → Type 0) → Type 0
SomeRenderedText call P = SomeMatchingStreams call.inputs (λ streams. (text : List ℕ) × (rendered_result call streams ≡ Some (Ok text)) × P text)

-- The call's result is this fault, for some streams that its readers may give.
abbrev pub IsSomeRenderedFault : RenderCall → RunFault → Type 0
IsSomeRenderedFault call fault = SomeMatchingStreams call.inputs (λ streams. rendered_result call streams ≡ Some (Err fault))
