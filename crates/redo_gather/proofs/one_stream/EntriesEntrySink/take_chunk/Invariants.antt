use Rattle.std.proofs.Common.{◌≤◌, ◌-◌, length}
use Rattle.redo_gather.specs.Private.Reading.{IsRead, IsReadTo}
use Rattle.redo_gather.proofs.one_stream.EntriesEntrySink.take_chunk.Given as goal

-- The chunk was consumed up to `offset`.
abbrev pub invariant-lines : goal.invariant-lines
invariant-lines l = (l.offset ≤ length l.chunk)
    × (IsRead l.initial.scan l.initial.self → IsReadTo l.initial.scan l.chunk l.offset l.scan l.self)

abbrev pub decreases-lines : goal.decreases-lines
decreases-lines l = length l.chunk - l.offset
