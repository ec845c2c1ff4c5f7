-- The logs of a directory, by their numbers, and what is written of them.
use Rattle.std.specs.Prelude.{◌≡◌, ◌⊎◌, ℕ, List, [], ◌∷◌, Option, None, Some, Result, Ok, Err, map}
use Rattle.redo_device.specs.Feed.{Stream}
use Rattle.redo_device.specs.Sink.{Output}
use Rattle.redo_logs.specs.Logs.{Log}
use Rattle.redo_gather.specs.Streams.{KnownInput}
use Rattle.redo_index.specs.declared.index_entry.IndexEntry.{IndexEntry}
use Rattle.redo_index.specs.Index.{listed_targets, numbers_of}
use Rattle.redo_view.specs.Written.{WroteAll, WroteNothing, WrotePrefix, WroteUntilFailed}
use Rattle.redo_run.specs.declared.run_fault.RunFault.{RunFault}
use Rattle.redo_run.specs.declared.run_fault.RunFault.TheVariants.{Unknown, Stream as OfStream, OutOfMemory, Write}
use Rattle.redo_run.specs.Rendered.{IsSomeRenderedFault, RenderCall, SomeRenderedText}
use Rattle.redo_command.specs.declared.failure.Failure.{Failure}
use Rattle.redo_command.specs.declared.failure.Failure.TheVariants.{Memory, Run}
use Rattle.redo_command.specs.NamesFile.{byte_limit}

-- The known stream of the log with a number, if all logs are files: none.
abbrev pub opaque_logs : ℕ → Option Stream
opaque_logs number = None

-- The known streams of the logs that an index lists, in order. `known` has the known stream of the log with each number.
abbrev pub known_logs : (ℕ → Option Stream) → List IndexEntry → List (Option Stream)
known_logs known index = map known (numbers_of index)

-- Whether a reader gives the stream of its log, if that is known. `contents` is the known stream of the reader.
abbrev pub Gives : Option Stream → Option Stream → Type 0
Gives None contents = Unit {0}
Gives (Some stream) contents = contents ≡ Some stream

-- Whether these readers give the streams of these logs, one each and in order.
abbrev pub AllGive : List (Option Stream) → List (Option Stream) → Type 0
AllGive [] [] = Unit {0}
AllGive (known ∷ logs) (contents ∷ readers) = Gives known contents × AllGive logs readers
AllGive logs readers = ⊥

-- What is known of the streams of the logs that an index lists, in order, and whether each log must be closed.
abbrev pub listed_inputs : (ℕ → Option Stream) → List IndexEntry → List KnownInput
listed_inputs known index = map (λ entry. record { must_close = entry.must_close; stream = known entry.number }) index

-- A call of `run_as` with the readers of the logs that an index lists.
abbrev pub logs_call : (ℕ → Option Stream) → (List Log → List (List ℕ) → List ℕ) → List IndexEntry → List (List ℕ) → RenderCall
logs_call known text index arguments = record {
  text = text;
  targets = listed_targets index;
  max_bytes = byte_limit;
  arguments = arguments;
  inputs = listed_inputs known index;
}

-- The output of a run, by its result and the known output of the writer before and after: the whole text of the call, or a prefix
-- of it until a write failed or memory ran out. An unknown argument or the fault of a stream is the result of the call, and nothing
-- was written.
abbrev pub IsRunWritten : RenderCall → Option Output → Option Output → Result (Unit {0}) RunFault → Type 0
IsRunWritten call before after (Ok done) = SomeRenderedText call (WroteAll before after)
IsRunWritten call before after (Err (Unknown place)) = IsSomeRenderedFault call (Unknown place) × WroteNothing before after
IsRunWritten call before after (Err (OfStream number fault)) = IsSomeRenderedFault call (OfStream number fault) × WroteNothing before after
IsRunWritten call before after (Err OutOfMemory) = WroteNothing before after ⊎ SomeRenderedText call (WrotePrefix before after)
IsRunWritten call before after (Err Write) = SomeRenderedText call (WroteUntilFailed before after)

-- The output of a run, for a result that may also be that memory ran out before the run. Then nothing was written.
abbrev pub IsWriteResult : RenderCall → Option Output → Option Output → Result (Unit {0}) Failure → Type 0
IsWriteResult call before after (Ok done) = IsRunWritten call before after (Ok done)
IsWriteResult call before after (Err (Run fault)) = IsRunWritten call before after (Err fault)
IsWriteResult call before after (Err Memory) = WroteNothing before after
IsWriteResult call before after (Err other) = ⊥
