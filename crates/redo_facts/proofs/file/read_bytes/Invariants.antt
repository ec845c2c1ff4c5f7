use Rattle.std.proofs.Common.{◌≡◌, ◌≤◌, ◌-◌, ◌+◌, length}
use Rattle.redo_device.proofs.GaveLemmas.{Gave}
use Rattle.redo_facts.proofs.file.read_bytes.Given as goal

-- These bytes were read, and no more than the maximum.
abbrev pub invariant-reads : goal.invariant-reads
invariant-reads g l = (length l.buf ≡ 65536) × (length l.bytes.items ≤ l.max_bytes)
    × Gave (g.R.Feed.contents l.fn.reader) l.bytes.items (g.R.Feed.contents l.reader)

abbrev pub decreases-reads : goal.decreases-reads
decreases-reads g l = l.max_bytes + 1 - length l.bytes.items
