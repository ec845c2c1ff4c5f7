-- The text that a run writes, or the fault that it returns.
--
-- The definitions take a call of `run`, and the known output of its writer before and after it.
use Rattle.std.specs.Prelude.{◌≡◌, ℕ, ◌<◌, List, Option, Some, Ok, Err, length, take}
use Rattle.std.specs.Global.{Vec}
use Rattle.redo_device.specs.Feed.{Stream}
use Rattle.redo_device.specs.Sink.{Output, append_output}
use Rattle.redo_options.specs.declared.options.Options.{Options}
use Rattle.redo_gather.specs.Streams.{SomeMatchingStreams, KnownInput, known_inputs}
use Rattle.redo_index.specs.declared.index_entry.IndexEntry.{IndexEntry}
use Rattle.redo_index.specs.Index.{must_close_flags}
use Rattle.redo_run.specs.declared.run_fault.RunFault.{RunFault}
use Rattle.redo_run.specs.Run.{Request, request, result_of}

-- A call of `run`: its request, and the known streams of its readers.
pub record Call : Type 0 where
  pub request : Request
  pub inputs : List KnownInput

abbrev pub call : {A : Type 0} → (A → Option Stream) → List IndexEntry → List A → ℕ → Options → List (Vec ℕ) → Call
call contents index readers max_bytes options arguments = record { request = request index max_bytes options arguments; inputs = known_inputs contents (must_close_flags index) readers }

-- `P` holds of the text that is the call's result, for some streams that its readers may give.
abbrev pub SomeResultText : Call → (List ℕ → Type 0) → Type 0
SomeResultText call P = SomeMatchingStreams call.inputs (λ streams. (text : List ℕ) × (result_of call.request streams ≡ Some (Ok text)) × P text)

-- The call's result is this fault, for some streams that its readers may give.
abbrev pub IsSomeResultFault : Call → RunFault → Type 0
IsSomeResultFault call fault = SomeMatchingStreams call.inputs (λ streams. result_of call.request streams ≡ Some (Err fault))

-- The whole text was written, and no other byte, and no write failed.
abbrev pub WritesSomeText : Call → Option Output → Option Output → Type 0
WritesSomeText call before after = SomeResultText call (λ text. after ≡ append_output before text 0)

-- A prefix of the text was written, but not all of it, and then one write failed.
abbrev pub WritesSomeTextUntilFailure : Call → Option Output → Option Output → Type 0
WritesSomeTextUntilFailure call before after = SomeResultText call (λ text. (n : ℕ) × (n < length text) × (after ≡ append_output before (take n text) 1))

-- A prefix of the text was written, possibly an empty or the whole one, and no write failed.
abbrev pub WritesSomePrefix : Call → Option Output → Option Output → Type 0
WritesSomePrefix call before after = SomeResultText call (λ text. (n : ℕ) × (after ≡ append_output before (take n text) 0))
