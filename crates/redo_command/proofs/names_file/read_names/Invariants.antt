use Rattle.std.proofs.Common.{◌≡◌, ◌≤◌, ◌-◌, ◌+◌, length}
use Rattle.redo_device.proofs.GaveLemmas.{Gave}
use Rattle.redo_command.specs.NamesFile.{byte_limit}
use Rattle.redo_command.proofs.names_file.read_names.Given as goal

-- These bytes were read, and no more than the maximum.
abbrev pub invariant-reads : goal.invariant-reads
invariant-reads g l = (length l.buf ≡ 65536) × (length l.bytes.items ≤ byte_limit)
    × Gave (g.R.Feed.contents l.fn.reader) l.bytes.items (g.R.Feed.contents l.reader)

abbrev pub decreases-reads : goal.decreases-reads
decreases-reads g l = byte_limit + 1 - length l.bytes.items
