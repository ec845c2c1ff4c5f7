-- How the items that were taken are stored in a table, in any order in which senders post.
use Rattle.std.specs.Prelude.{◌≡◌, ◌≢◌, ℕ, ◌<◌, Bool, false, List, [], ◌∷◌, Option, length, map}
use Rattle.std.specs.List.{AllByRecursion}
use Rattle.redo_line.specs.declared.stream_fault.StreamFault.TheVariants.{OutOfMemory}
use Rattle.redo_line.specs.Source.{sources}
use Rattle.redo_device.specs.Feed.{Stream}
use Rattle.redo_logs.specs.declared.log_state.LogState.{LogState}
use Rattle.redo_logs.specs.declared.log_state.LogState.TheVariants.{Ended, Failed, Running}
use Rattle.redo_logs.specs.Logs.{Log, update_log, new_log, with_entries, with_entry, with_state}
use Rattle.redo_wire.specs.declared.item.Item.{Item}
use Rattle.redo_wire.specs.declared.item.What.{What}
use Rattle.redo_wire.specs.declared.item.What.TheVariants.{End, Fail, Line, Lines}
use Rattle.redo_wire.specs.Mailbox.{AreAllMet, AreFromSenders, AreMetFullyTaken, Met, PostEndState}
use Rattle.redo_gather.specs.declared.collector.LogCollector.{LogCollector}
use Rattle.redo_gather.specs.Expected.{KnownSource}
use Rattle.redo_gather.specs.Private.Distribution.{AreReady, share_of}
use Rattle.redo_gather.specs.Sending.{AreExpected, singles}
use Rattle.redo_gather.specs.Streams.{KnownInput}

-- A log in this state, after an item. A log that isn't running takes nothing any more.
abbrev pub changed_by : LogState → What → Log → Log
changed_by Running (Line entry) log = with_entry entry log
changed_by Running (Lines entries) log = with_entries entries log
changed_by Running End log = with_state Ended log
changed_by Running (Fail fault) log = with_state (Failed fault) log
changed_by Ended what log = log
changed_by (Failed fault) what log = log

abbrev pub step : What → Log → Log
step what log = changed_by log.state what log

-- A table after these items were stored.
abbrev pub stored : List Item → List Log → List Log
stored [] table = table
stored (item ∷ items) table = stored items (update_log item.stream (step item.what) table)

-- Items that don't report that memory ran out.
abbrev pub IsNotOutOfMemory : What → Type 0
IsNotOutOfMemory what = what ≢ Fail OutOfMemory

abbrev pub NoneOutOfMemory : List Item → Type 0
NoneOutOfMemory = AllByRecursion (λ (item : Item). IsNotOutOfMemory item.what)

-- The table of a collector that took these items, unless an allocation failed.
abbrev pub StoresAllTaken : List (List ℕ) → List Item → List Log → Bool → Type 0
StoresAllTaken names taken table refused = refused ≡ false → (table ≡ stored (singles taken) (map new_log names)) × NoneOutOfMemory (singles taken)

-- A met end posted what is expected for the share of its number.
abbrev pub PostedExpected : ℕ → ℕ → List KnownSource → Met → Type 0
PostedExpected max_bytes senders given met = AreExpected max_bytes met.0 (share_of senders met.0 0 given) (singles met.1)

-- The collected items of ends whose senders sent these shares: the mailbox is the same, the items taken are stored, and each end
-- that was met since `before` posted what is expected of it.
pub record Collects {A : Type 0} (contents : A → Option Stream) (max_bytes : ℕ) (ends : List PostEndState) (shares : List (List (ℕ × List ℕ × Bool × A))) (before after : LogCollector) : Type 0 where
  pub mailbox : after.take_end.mailbox ≡ before.take_end.mailbox
  pub holds : (names : List (List ℕ)) → StoresAllTaken names before.take_end.taken before.table before.out_of_memory → StoresAllTaken names after.take_end.taken after.table after.out_of_memory
  pub expected : (given : List KnownSource) → AreReady contents before.take_end.mailbox.senders given ends shares
      → AllByRecursion (PostedExpected max_bytes before.take_end.mailbox.senders given) before.take_end.met
      → AllByRecursion (PostedExpected max_bytes before.take_end.mailbox.senders given) after.take_end.met

-- The streams were distributed to senders, the met ends posted what is expected, and the collector stored what it took.
pub record AllExpected (max_bytes : ℕ) (names : List (List ℕ)) (known : List KnownInput) (collector : LogCollector) : Type 0 where
  pub count : length names ≡ length known
  pub some : 0 < collector.take_end.mailbox.senders
  pub expected : AllByRecursion (PostedExpected max_bytes collector.take_end.mailbox.senders (sources names known)) collector.take_end.met
  pub holds : StoresAllTaken names collector.take_end.taken collector.table collector.out_of_memory

-- The streams were distributed as in `AllExpected`, and all that was posted was taken.
pub record AllTaken (max_bytes : ℕ) (names : List (List ℕ)) (known : List KnownInput) (collector : LogCollector) : Type 0 where
  pub expected : AllExpected max_bytes names known collector
  pub met : AreAllMet collector.take_end
  pub whole : AreMetFullyTaken collector.take_end
  pub own : AreFromSenders collector.take_end
