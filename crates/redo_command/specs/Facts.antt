-- The times of the targets of an index, and the facts of their recipes.
use Rattle.std.specs.Prelude.{◌≡◌, ℕ, List, Option}
use Rattle.redo_device.specs.Feed.{SomeStream, Stream}
use Rattle.redo_facts.specs.Facts.{RecipeFacts}
use Rattle.redo_facts.specs.Reading.{facts_of_stream}
use Rattle.redo_index.specs.declared.index_entry.IndexEntry.{IndexEntry}
use Rattle.redo_index.specs.Index.{listed_targets}
use Rattle.redo_times.specs.declared.times.Times.{Times}
use Rattle.redo_times.specs.Readers.{AreTimesOfReaders}
use Rattle.redo_command.specs.declared.facts.BuildFacts.{BuildFacts}
use Rattle.redo_command.specs.Logs.{known_logs}
use Rattle.redo_command.specs.NamesFile.{byte_limit}

-- These are the times of the targets of an index, by the logs that it lists. `known` is what is known of the log with each number.
abbrev pub AreTimesOfLogs : (ℕ → Option Stream) → List IndexEntry → List Times → Type 0
AreTimesOfLogs known index times = AreTimesOfReaders byte_limit (listed_targets index) (known_logs known index) times

-- These are the facts of the recipes of an index's targets, by the file `facts`. `known` is what is known of its stream.
abbrev pub AreFactsOfFile : Option Stream → List IndexEntry → List RecipeFacts → Type 0
AreFactsOfFile known index facts = SomeStream known (λ stream. facts ≡ facts_of_stream byte_limit index stream)

-- These are the times of the targets of an index and the facts of their recipes. `logs` is what is known of the log with each number,
-- and `file` what is known of the file `facts`.
pub record AreBuildFacts (logs : ℕ → Option Stream) (file : Option Stream) (index : List IndexEntry) (facts : BuildFacts) : Type 0 where
  pub times : AreTimesOfLogs logs index facts.times.items
  pub recipes : AreFactsOfFile file index facts.recipes.items
