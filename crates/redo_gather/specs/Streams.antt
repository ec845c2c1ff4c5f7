-- The logs of a set of streams, and its fault.
--
-- Targets and streams are two lists of the same length. Each target has the stream at the same index.
use Rattle.std.specs.Prelude.{◌≡◌, ◌↔◌, ℕ, Bool, List, [], ◌∷◌, Option, None, Some, IsSome, map, zip}
use Rattle.std.specs.Option.{option_map}
use Rattle.redo_line.specs.declared.entry.Entry.{Entry}
use Rattle.redo_line.specs.declared.stream_fault.StreamFault.{StreamFault}
use Rattle.redo_device.specs.Feed.{Stream}
use Rattle.redo_line.specs.Source.{StreamInput, Source, source_fault, source_log, sources}
use Rattle.redo_logs.specs.declared.log_state.LogState.TheVariants.{Ended}
use Rattle.redo_logs.specs.Logs.{Log, lowest_fault}

-- The known stream of a reader, and whether the stream's log must be closed.
abbrev pub KnownInput : Type 0
KnownInput = StreamInput (Option Stream)

-- The known streams of readers, each with the must-close flag at the same index.
abbrev pub known_input : {A : Type 0} → (A → Option Stream) → Bool × A → KnownInput
known_input contents given = record { must_close = given.0; stream = contents given.1 }

abbrev pub known_inputs : {A : Type 0} → (A → Option Stream) → List Bool → List A → List KnownInput
known_inputs contents flags readers = map (known_input contents) (zip flags readers)

-- Whether a reader may give this stream: only the known one, or any if the reader is opaque.
abbrev pub MatchesContents : Option Stream → Stream → Type 0
MatchesContents None stream = Unit {0}
MatchesContents (Some known) stream = stream ≡ known

-- The readers may give these streams, one each, with these must-close flags.
abbrev pub MatchKnown : List KnownInput → List (StreamInput Stream) → Type 0
MatchKnown [] [] = Unit {0}
MatchKnown (known ∷ others) (given ∷ streams) =
    ((given.must_close ≡ known.must_close) × MatchesContents known.stream given.stream) × MatchKnown others streams
MatchKnown known streams = ⊥

-- `P` holds of some streams that the readers may give.
abbrev pub SomeMatchingStreams : List KnownInput → (List (StreamInput Stream) → Type 0) → Type 0
SomeMatchingStreams known P = (streams : List (StreamInput Stream)) × MatchKnown known streams × P streams

-- The input of a reader whose stream is known.
abbrev pub fully_known : StreamInput Stream → KnownInput
fully_known given = record { must_close = given.must_close; stream = Some given.stream }

-- The complete log of a target.
abbrev pub complete_log : List ℕ → List Entry → Log
complete_log target entries = record { target = target; entries = entries; state = Ended }

-- The log of a target and its stream, if there is one.
abbrev pub log_with : ℕ → Source Stream → Option Log
log_with max_bytes source = option_map (complete_log source.target) (source_log max_bytes source)

abbrev pub prepend_log : Option Log → Option (List Log) → Option (List Log)
prepend_log (Some log) (Some logs) = Some (log ∷ logs)
prepend_log log logs = None

-- All of these logs, if each of them exists.
abbrev pub all_of : List (Option Log) → Option (List Log)
all_of [] = Some []
all_of (log ∷ logs) = prepend_log log (all_of logs)

-- The logs of these targets, each with its stream. They exist exactly if each of them does.
abbrev pub logs_of : ℕ → List (List ℕ) → List (StreamInput Stream) → Option (List Log)
logs_of max_bytes targets streams = all_of (map (log_with max_bytes) (sources targets streams))

-- The lowest number of a stream that has a fault, and its fault.
abbrev pub fault_among : ℕ → List (List ℕ) → List (StreamInput Stream) → Option (ℕ × StreamFault)
fault_among max_bytes targets streams = lowest_fault (map (source_fault max_bytes) (sources targets streams))

-- These are the logs of some streams that the readers may give.
abbrev pub AreLogsOfReaders : ℕ → List (List ℕ) → List KnownInput → List Log → Type 0
AreLogsOfReaders max_bytes targets known logs = SomeMatchingStreams known (λ streams. logs_of max_bytes targets streams ≡ Some logs)

-- This is the fault among some streams that the readers may give.
abbrev pub IsLowestFault : ℕ → List (List ℕ) → List KnownInput → ℕ → StreamFault → Type 0
IsLowestFault max_bytes targets known number fault = SomeMatchingStreams known (λ streams. fault_among max_bytes targets streams ≡ Some (number, fault))

-- There are logs exactly if there is no fault.
abbrev pub HasLogsUnlessFault : ℕ → List (List ℕ) → List (StreamInput Stream) → Type 0
HasLogsUnlessFault max_bytes targets streams = IsSome (logs_of max_bytes targets streams) ↔ (fault_among max_bytes targets streams ≡ None)

-- If these streams are known, the logs of their readers (`AreLogsOfReaders`) are the logs of the streams. A fault of the logs is a
-- fault of the streams.
abbrev pub LogsAreThoseOfStreams : ℕ → List (List ℕ) → List (StreamInput Stream) → Type 0
LogsAreThoseOfStreams max_bytes targets streams = (logs : List Log) → AreLogsOfReaders max_bytes targets (map fully_known streams) logs → logs_of max_bytes targets streams ≡ Some logs

abbrev pub FaultIsThatOfStreams : ℕ → List (List ℕ) → List (StreamInput Stream) → Type 0
FaultIsThatOfStreams max_bytes targets streams =
    (number : ℕ) (fault : StreamFault) → IsLowestFault max_bytes targets (map fully_known streams) number fault → fault_among max_bytes targets streams ≡ Some (number, fault)
