use Rattle.std.proofs.Common.{◌<◌, ◌≤◌, ◌-◌, List, ◌++◌, length}
use Rattle.redo_line.specs.declared.entry.Entry.{Entry}
use Rattle.redo_line.specs.Scan.{Scanned}
use Rattle.redo_gather.specs.Private.Reading.{IsReadTo}
use Rattle.redo_gather.specs.Sending.{max_entries}
use Rattle.redo_gather.proofs.poster.read_batch.Given as goal

-- The chunk was consumed up to `offset`, and one more entry fits into the batch.
abbrev pub invariant-lines : goal.invariant-lines
invariant-lines l =
    (l.fn.from ≤ l.offset) × (l.offset ≤ length l.chunk)
    × (length l.batch < max_entries)
    × ((initial : Scanned) (earlier : List Entry) → IsReadTo initial l.chunk l.fn.from l.initial.scan earlier
    → IsReadTo initial l.chunk l.offset l.scan (earlier ++ l.batch))

abbrev pub decreases-lines : goal.decreases-lines
decreases-lines l = length l.chunk - l.offset
