-- What a property of the streams of readers says about the files that they give.
use Rattle.std.proofs.Common.{◌≡◌, ℕ, List, [], ◌∷◌, map, Option, None, Some, subst}
use Rattle.redo_device.specs.Feed.{Stream, SomeStream}
use Rattle.redo_index.specs.declared.index_entry.IndexEntry.{IndexEntry}
use Rattle.redo_index.specs.Index.{listed_targets}
use Rattle.redo_command.specs.Logs.{AllGive, Gives, known_logs}
use Rattle.redo_command.specs.NamesFile.{byte_limit}
use Rattle.redo_times.specs.declared.times.Times.{Times}
use Rattle.redo_times.specs.Readers.{AreTimesOfReaders, SomeStreams, times_of_all}
use Rattle.redo_command.specs.Facts.{AreTimesOfLogs}

some_stream : (known : Option Stream) (P : Stream → Type 0) → SomeStream known P → (stream : Stream) × P stream
some_stream None P given = given
some_stream (Some stream) P given = (stream, given)

-- A property of the stream of a reader is a property of the stream of the file that it gives.
pub of_file : (known contents : Option Stream) (P Q : Stream → Type 0) → Gives known contents → ((stream : Stream) → P stream → Q stream)
    → SomeStream contents P → SomeStream known Q
of_file None contents P Q gives weaker given = let found = some_stream contents P given in (found.0, weaker found.0 found.1)
of_file (Some first) contents P Q gives weaker given = weaker first (subst (λ c. SomeStream c P) gives given)

-- A property of the streams of readers is a property of the streams of the logs that they give.
of_logs : (logs readers : List (Option Stream)) (P : List Stream → Type 0) → AllGive logs readers → SomeStreams readers P
    → SomeStreams logs P
of_logs [] [] P give given = given
of_logs [] (reader ∷ readers) P give given = absurd give
of_logs (log ∷ logs) [] P give given = absurd give
of_logs (log ∷ logs) (reader ∷ readers) P give given =
    of_file log reader (λ stream. SomeStreams readers (λ streams. P (stream ∷ streams)))
    (λ stream. SomeStreams logs (λ streams. P (stream ∷ streams))) give.0
    (λ stream some. of_logs logs readers (λ streams. P (stream ∷ streams)) give.1 some) given

-- The times of readers are times of the logs that they give.
pub times_of_logs : {A : Type 0} (contents : A → Option Stream) (known : ℕ → Option Stream) (index : List IndexEntry) (readers : List A)
    (times : List Times)
    → AllGive (known_logs known index) (map contents readers)
    → AreTimesOfReaders byte_limit (listed_targets index) (map contents readers) times → AreTimesOfLogs known index times
times_of_logs contents known index readers times give given =
    of_logs (known_logs known index) (map contents readers)
    (λ streams. times ≡ times_of_all byte_limit (listed_targets index) streams) give given
