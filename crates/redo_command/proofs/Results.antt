-- The results of writing, flushing and reading the index.
use Rattle.std.proofs.Common.{◌≡◌, ◌⊎◌, ◌∙◌, inl, inr, ℕ, false, List, [], map, Option, None, Some, Result, Ok, Err, IfOk, IsErrAnd, refl, sym, ap, subst}
use Rattle.std.specs.Global.{Vec}
use Rattle.redo_device.specs.Feed.{Stream, SomeStream}
use Rattle.redo_device.specs.Sink.{Output}
use Rattle.redo_line.specs.Source.{StreamInput}
use Rattle.redo_logs.specs.Logs.{Log}
use Rattle.redo_gather.specs.Streams.{SomeMatchingStreams}
use Rattle.redo_index.specs.declared.index_entry.IndexEntry.{IndexEntry}
use Rattle.redo_options.specs.Arguments.{argument_bytes}
use Rattle.redo_view.specs.Written.{WroteAll, WroteNothing, WrotePrefix, WroteUntilFailed}
use Rattle.redo_run.specs.declared.run_fault.RunFault.{RunFault}
use Rattle.redo_run.specs.declared.run_fault.RunFault.TheVariants.{Unknown, Stream as OfStream, OutOfMemory, Write}
use Rattle.redo_run.specs.Rendered.{IsSomeRenderedFault, RenderCall, SomeRenderedText, render_call}
use Rattle.redo_run.specs.RunFault.{IfNoText}
use Rattle.redo_command.specs.declared.failure.Failure.{Failure}
use Rattle.redo_command.specs.declared.failure.Failure.TheVariants.{NamesRead, Memory}
use Rattle.redo_command.specs.Failure.{IsIndexFailure}
use Rattle.redo_command.specs.Logs.{AllGive, IsRunWritten, IsWriteResult, known_logs, logs_call}
use Rattle.redo_command.specs.NamesFile.{CannotBeRead, byte_limit}
use Rattle.redo_command.specs.Output.{IsClosedAfter}
use Rattle.redo_command.specs.Private.Program.{IsIndexResult}
use Rattle.redo_command.specs.Shown.{IsShown}
use Rattle.redo_command.proofs.LogLemmas.{match_known}

-- The result of a run states the same about the streams of its readers and about the logs that they give.
module _ {A : Type 0} (text : List Log → List (List ℕ) → List ℕ) (contents : A → Option Stream) (known : ℕ → Option Stream)
    (index : List IndexEntry) (readers : List A) (arguments : List (Vec ℕ)) (give : AllGive (known_logs known index) (map contents readers))
    (before after : Option Output) where
  abbrev logs : RenderCall
  logs = logs_call known text index (argument_bytes arguments)

  abbrev reading_within : ℕ → RenderCall
  reading_within n = render_call text contents index readers n arguments

  abbrev reading : RenderCall
  reading = reading_within byte_limit

  some_streams : (P : List (StreamInput Stream) → Type 0) → SomeMatchingStreams reading.inputs P → SomeMatchingStreams logs.inputs P
  some_streams P given = (given.0, match_known contents known index readers given.0 give given.1, given.2)

  or_prefix : WroteNothing before after ⊎ SomeRenderedText reading (WrotePrefix before after)
      → WroteNothing before after ⊎ SomeRenderedText logs (WrotePrefix before after)
  or_prefix (inl nothing) = inl nothing
  or_prefix (inr some) = inr (some_streams _ some)

  written : (result : Result (Unit {0}) RunFault) → IsRunWritten reading before after result → IsRunWritten logs before after result
  written (Ok done) given = some_streams _ given
  written (Err (Unknown place)) given = (some_streams _ given.0, given.1)
  written (Err (OfStream number cause)) given = (some_streams _ given.0, given.1)
  written (Err OutOfMemory) given = or_prefix given
  written (Err Write) given = some_streams _ given

  pub is_written : (n : ℕ) (result : Result (Unit {0}) RunFault) → n ≡ byte_limit → IsRunWritten (reading_within n) before after result
      → IsRunWritten logs before after result
  is_written n result is given = written result (subst (λ (limit : ℕ). IsRunWritten (reading_within limit) before after result) is given)

module _ (call : RenderCall) where
  -- The clauses of `run_as` say what a run wrote.
  pub is_run_written : (before after : Option Output) (result : Result (Unit {0}) RunFault)
      → IfOk result (λ _. SomeRenderedText call (WroteAll before after)) → IfNoText result (λ fault. IsSomeRenderedFault call fault)
      → IfNoText result (λ _. WroteNothing before after)
      → (result ≡ Err Write → SomeRenderedText call (WroteUntilFailed before after))
      → (result ≡ Err OutOfMemory → WroteNothing before after ⊎ SomeRenderedText call (WrotePrefix before after))
      → IsRunWritten call before after result
  is_run_written before after (Ok done) whole fault nothing write memory = whole
  is_run_written before after (Err (Unknown place)) whole fault nothing write memory = (fault, nothing)
  is_run_written before after (Err (OfStream number cause)) whole fault nothing write memory = (fault, nothing)
  is_run_written before after (Err OutOfMemory) whole fault nothing write memory = memory refl
  is_run_written before after (Err Write) whole fault nothing write memory = write refl

  -- Running out of memory before a run writes nothing.
  pub is_unwritten : (output : Option Output) (result : Result (Unit {0}) Failure) → IsErrAnd result (λ failure. failure ≡ Memory)
      → IsWriteResult call output output result
  is_unwritten output (Ok done) is = absurd is
  is_unwritten output (Err failure) is = subst (λ f. IsWriteResult call output output (Err f)) (sym is) refl

-- Flushing a buffer and closing the file below it is closing once.
closed_twice : (outcome flushed result : Result (Unit {0}) Failure) → IsClosedAfter outcome flushed → IsClosedAfter flushed result
    → IsClosedAfter outcome result
closed_twice (Ok done) flushed result (inl is) closed = subst (λ r. IsClosedAfter r result) is closed
closed_twice (Ok done) flushed result (inr is) closed = inr (subst (λ r. IsClosedAfter r result) is closed)
closed_twice (Err failure) flushed result is closed = subst (λ r. IsClosedAfter r result) is closed

module _ (P : Result (Unit {0}) Failure → Type 0) where
  -- A result of showing logs is one after the output file was closed, too.
  pub is_shown_closed : (shown result : Result (Unit {0}) Failure) → IsClosedAfter shown result → IsShown P shown → IsShown P result
  is_shown_closed (Ok done) result closed (inl is) = absurd is
  is_shown_closed (Err failure) result closed (inl is) = inl (subst (λ r. IsErrAnd r IsIndexFailure) (sym closed) is)
  is_shown_closed (Ok done) result closed (inr (outcome, holds, flushed)) =
      inr (outcome, holds, closed_twice outcome (Ok done) result flushed closed)
  is_shown_closed (Err failure) result closed (inr (outcome, holds, flushed)) =
      inr (outcome, holds, closed_twice outcome (Err failure) result flushed closed)

  -- Memory ran out before anything was written.
  pub is_memory_failure : (result : Result (Unit {0}) Failure) → IsErrAnd result (λ failure. failure ≡ Memory) → IsShown P result
  is_memory_failure (Ok done) is = absurd is
  is_memory_failure (Err failure) is = inl (subst IsIndexFailure (sym is) tt)

-- A property of every stream is a property of a reader's stream.
any_stream : (known : Option Stream) (P : Stream → Type 0) → ((stream : Stream) → P stream) → SomeStream known P
any_stream None P all = (record { bytes = []; fails = false }, all (record { bytes = []; fails = false }))
any_stream (Some stream) P all = all stream

abbrev failed : (X : Type 0) → Failure → Result X Failure
failed X failure = Err failure

-- The file `names` was not read.
pub not_read : (X : Type 0) (known : Option Stream) (result : Result (List IndexEntry) Failure) (failure : Failure)
    → IsErrAnd result (λ f. f ≡ failure) → (failure ≡ NamesRead) ⊎ (failure ≡ Memory)
    → (failed X failure ≡ failed X NamesRead → SomeStream known CannotBeRead) → SomeStream known (IsIndexResult result)
not_read X known (Ok index) failure is either unreadable = absurd is
not_read X known (Err given) failure is (inl names) unreadable =
    subst (λ f. SomeStream known (IsIndexResult (Err f))) (sym (is ∙ names)) (unreadable (ap Err names))
not_read X known (Err given) failure is (inr memory) unreadable =
    subst (λ f. SomeStream known (IsIndexResult (Err f))) (sym (is ∙ memory)) (any_stream known _ (λ _. tt))
