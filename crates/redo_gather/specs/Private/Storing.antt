-- How the entries read from a stream are stored in a table.
use Rattle.std.specs.Prelude.{◌≡◌, ℕ, List, Option, None, Some}
use Rattle.redo_line.specs.declared.entry.Entry.{Entry}
use Rattle.redo_line.specs.declared.stream_fault.StreamFault.{StreamFault}
use Rattle.redo_device.specs.Feed.{SomeStream}
use Rattle.redo_line.specs.Source.{source_fault, source_log, with_stream}
use Rattle.redo_logs.specs.declared.log_state.LogState.{LogState}
use Rattle.redo_logs.specs.declared.log_state.LogState.TheVariants.{Ended, Failed}
use Rattle.redo_logs.specs.Logs.{Log, update_log, with_entries, with_state}
use Rattle.redo_gather.specs.Expected.{KnownSource}

-- The state of a log after its last entry.
abbrev pub state_after : Option StreamFault → LogState
state_after None = Ended
state_after (Some fault) = Failed fault

-- A log, completed by these entries and the end or the fault.
abbrev pub completed : List Entry → Option StreamFault → Log → Log
completed entries fault log = with_state (state_after fault) (with_entries entries log)

-- The log of this number in a table was completed by the log of the reader's stream.
pub record IsCompleted (max_bytes number : ℕ) (given : KnownSource) (before after : List Log) : Type 0 where
  pub entries : List Entry
  pub entries_are : SomeStream given.stream (λ stream. source_log max_bytes (with_stream stream given) ≡ Some entries)
  pub after_is : after ≡ update_log number (completed entries None) before

-- The reader's stream has this fault.
abbrev pub HasFault : ℕ → KnownSource → StreamFault → Type 0
HasFault max_bytes given fault = SomeStream given.stream (λ stream. source_fault max_bytes (with_stream stream given) ≡ Some fault)
