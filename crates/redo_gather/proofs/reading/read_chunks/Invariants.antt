use Rattle.std.proofs.Common.{◌≡◌, ◌≤◌, ◌-◌, ◌+◌, List, length}
use Rattle.redo_line.specs.declared.entry.Entry.{Entry}
use Rattle.redo_gather.proofs.ReadingLemmas.{IsFor, Reading}
use Rattle.redo_gather.proofs.reading.read_chunks.Given as goal

-- Each read before this one gave at least one byte.
abbrev pub invariant-reads : goal.invariant-reads
invariant-reads g l =
    goal.B-IsAlwaysCallable g l.before_read
    × (length l.buf ≡ length l.initial.buf)
    × IsFor l.initial.scan.target l.initial.scan.max_bytes l.initial.scan.must_close l.scan
    × (l.read_number ≤ length l.scan.bytes)
    × ((entries : List Entry) × g.S.EntrySink.has_taken l.initial.sink l.sink entries
    × Reading (g.R.Feed.contents l.initial.reader) (g.R.Feed.contents l.reader) l.scan entries)

-- Each read gives bytes within the limit, or it is the last one.
abbrev pub decreases-reads : goal.decreases-reads
decreases-reads g l = l.initial.scan.max_bytes + 1 - length l.scan.bytes
