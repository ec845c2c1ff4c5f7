-- The facts of all targets of an index, by the stream of a file.
use Rattle.std.specs.Prelude.{ℕ, nat_le, ◌&&◌, not, List, [], length, map, if◌then◌else◌}
use Rattle.redo_device.specs.Feed.{Stream}
use Rattle.redo_line.specs.Lines.{ended}
use Rattle.redo_index.specs.declared.index_entry.IndexEntry.{IndexEntry}
use Rattle.redo_facts.specs.Facts.{RecipeFacts, facts_of}

-- The bytes of a file that count: all of them; none, if a read of the file fails or if it has more than `max_bytes` bytes.
abbrev pub bytes_that_count : ℕ → Stream → List ℕ
bytes_that_count max_bytes stream = if not stream.fails && nat_le (length stream.bytes) max_bytes then stream.bytes else []

-- The facts of each target, by these lines.
abbrev pub facts_of_all : List IndexEntry → List (List ℕ) → List RecipeFacts
facts_of_all index lines = map (λ entry. facts_of entry.number entry.target lines) index

-- The facts of each target, by the stream of a file. Only ended lines count.
abbrev pub facts_of_stream : ℕ → List IndexEntry → Stream → List RecipeFacts
facts_of_stream max_bytes index stream = facts_of_all index (ended (bytes_that_count max_bytes stream))
