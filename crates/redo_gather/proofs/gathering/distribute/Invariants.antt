use Rattle.std.proofs.Common.{◌≡◌, ◌++◌, length, map}
use Rattle.redo_line.specs.Source.{sources}
use Rattle.redo_logs.specs.Logs.{targets_of}
use Rattle.redo_gather.specs.Private.Distribution.{AreDistributed}
use Rattle.redo_gather.specs.Streams.{known_input}
use Rattle.redo_gather.proofs.gathering.distribute.Given as goal

-- The first streams were distributed.
abbrev pub invariant-loop-must_close : goal.invariant-loop-must_close
invariant-loop-must_close g l =
    (l.number ≡ length l.yielded)
    × (l.fn.readers.items ≡ l.yielded ++ l.must_close-iterator.rest.items)
    × AreDistributed g.R.Feed.contents l.senders (sources (targets_of l.table) (map (known_input g.R.Feed.contents) l.yielded))
    (map (λ share. share.items) l.shares.items)
