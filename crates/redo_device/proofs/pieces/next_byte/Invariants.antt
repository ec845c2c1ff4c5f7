use Rattle.std.proofs.Common.{◌≡◌, ◌-◌, ◌≤◌, length, map}
use Rattle.redo_device.specs.Pieces.{from_first_byte}
use Rattle.redo_device.specs.Private.Pieces.{unread}
use Rattle.redo_device.proofs.pieces.next_byte.Given as goal

-- The reads that were skipped had no byte left.
abbrev pub invariant-loop-at : goal.invariant-loop-at
invariant-loop-at l =
    let reads = map (λ read. read.items) l.reads in
    (l.at ≤ length l.reads) × (from_first_byte (unread reads l.at l.from) ≡ from_first_byte (unread reads l.fn.at l.fn.from))

abbrev pub decreases-loop-at : goal.decreases-loop-at
decreases-loop-at l = length l.reads - l.at
