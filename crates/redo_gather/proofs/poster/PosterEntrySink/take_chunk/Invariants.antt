use Rattle.std.proofs.Common.{◌≡◌, ◌≤◌, ◌-◌, List, ◌++◌, length, map}
use Rattle.redo_line.specs.declared.entry.Entry.{Entry}
use Rattle.redo_gather.specs.Private.Reading.{IsRead, IsReadTo}
use Rattle.redo_gather.specs.Private.Posting.{HasPosted}
use Rattle.redo_gather.specs.Sending.{entry_item}
use Rattle.redo_gather.proofs.poster.PosterEntrySink.take_chunk.Given as goal

-- The chunk was consumed up to `offset`, and the entries of its lines so far were posted.
abbrev pub invariant-batches : goal.invariant-batches
invariant-batches g l =
    (l.offset ≤ length l.chunk)
    × (l.self.stream ≡ l.initial.self.stream)
    × ((entries : List Entry) × HasPosted l.initial.self.end l.self.end
    (map (entry_item l.initial.self.end.number l.initial.self.stream) entries)
    × ((earlier : List Entry) → IsRead l.initial.scan earlier → IsReadTo l.initial.scan l.chunk l.offset l.scan (earlier ++ entries)))

abbrev pub decreases-batches : goal.decreases-batches
decreases-batches g l = length l.chunk - l.offset
