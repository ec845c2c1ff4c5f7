-- The source of a log: its target, its stream, and whether the log must be closed.
use Rattle.std.specs.Prelude.{ℕ, ◌-◌, Bool, not, ◌&&◌, List, [], ◌∷◌, Option, None, Some, option_and_then, length, filter_map, slice_get, if◌then◌else◌}
use Rattle.redo_line.specs.declared.entry.Entry.{Entry}
use Rattle.redo_line.specs.declared.stream_fault.StreamFault.{StreamFault}
use Rattle.redo_line.specs.declared.stream_fault.StreamFault.TheVariants.{NotClosed}
use Rattle.redo_device.specs.Feed.{Stream}
use Rattle.redo_line.specs.Log.{closes, entries_of, fault_of, or_else, entries_before_fault, unless_fault}

-- The target of the log, whether the log must be closed, and its stream, or the known stream of the reader.
pub record Source (A : Type 0) : Type 0 where
  pub target : List ℕ
  pub must_close : Bool
  pub stream : A

abbrev pub source : {A : Type 0} → List ℕ → Bool → A → Source A
source target must_close stream = record { target = target; must_close = must_close; stream = stream }

-- The source with another stream, such as the stream that a reader gives instead of its known stream.
abbrev pub with_stream : {A B : Type 0} → B → Source A → Source B
with_stream stream given = source given.target given.must_close stream

-- A stream, or the known stream of its reader, and whether its log must be closed.
pub record StreamInput (A : Type 0) : Type 0 where
  pub must_close : Bool
  pub stream : A

-- The source of each target, with the stream at the same index.
abbrev pub sources : {A : Type 0} → List (List ℕ) → List (StreamInput A) → List (Source A)
sources (target ∷ targets) (given ∷ streams) = source target given.must_close given.stream ∷ sources targets streams
sources targets streams = []

-- The entry of the last of these lines, if there is a line and it has an entry.
abbrev pub last_entry : List (Option Entry) → Option Entry
last_entry entries = option_and_then (λ entry. entry) (slice_get entries (length entries - 1))

-- Whether the last line of these bytes is the closing record.
abbrev pub is_closed : List ℕ → List ℕ → Bool
is_closed target bytes = closes (last_entry (entries_of target bytes))

-- The fault that is known only at the end of a stream: the log must be closed and isn't.
abbrev pub closing_fault : Source Stream → Option StreamFault
closing_fault given = if given.must_close && not (is_closed given.target given.stream.bytes) then Some NotClosed else None

-- The fault of the stream of this source, if at most `max_bytes` bytes are allowed.
abbrev pub source_fault : ℕ → Source Stream → Option StreamFault
source_fault max_bytes given = or_else (fault_of given.target max_bytes given.stream) (closing_fault given)

-- The entries of its ended lines within the limit, before the first invalid line if there is one.
abbrev pub source_entries_before_fault : ℕ → Source Stream → List Entry
source_entries_before_fault max_bytes given = entries_before_fault given.target max_bytes given.stream

-- Its log, if it has no fault: the entries of all its lines.
abbrev pub source_log : ℕ → Source Stream → Option (List Entry)
source_log max_bytes given = unless_fault (source_fault max_bytes given) (filter_map (λ entry. entry) (entries_of given.target given.stream.bytes))
