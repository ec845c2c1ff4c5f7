-- The times of targets whose streams are read.
use Rattle.std.specs.Prelude.{◌≡◌, ℕ, List, [], ◌∷◌, Option, map}
use Rattle.redo_device.specs.Feed.{Stream, SomeStream}
use Rattle.redo_times.specs.declared.times.Times.{Times}
use Rattle.redo_times.specs.Report.{TimedLog}
use Rattle.redo_times.specs.Times.{times_of}

-- `P` holds of the streams of these readers, in order. For an opaque reader, `P` holds of some stream.
abbrev pub SomeStreams : List (Option Stream) → (List Stream → Type 0) → Type 0
SomeStreams [] P = P []
SomeStreams (known ∷ others) P = SomeStream known (λ stream. SomeStreams others (λ streams. P (stream ∷ streams)))

-- The log of each target, with the stream at the same index. A failed read ends the log as the end of input does.
abbrev pub logs_of : List (List ℕ) → List Stream → List TimedLog
logs_of (target ∷ targets) (stream ∷ streams) = record { target = target; bytes = stream.bytes } ∷ logs_of targets streams
logs_of targets streams = []

-- When each target began and ended, by the logs of these streams.
abbrev pub times_of_all : ℕ → List (List ℕ) → List Stream → List Times
times_of_all max_bytes targets streams = map (times_of max_bytes (logs_of targets streams)) targets

-- These are the times of the targets by the logs of some streams that the readers may give.
abbrev pub AreTimesOfReaders : ℕ → List (List ℕ) → List (Option Stream) → List Times → Type 0
AreTimesOfReaders max_bytes targets known times = SomeStreams known (λ streams. times ≡ times_of_all max_bytes targets streams)
