use Rattle.std.proofs.Common.{◌≡◌, ◌++◌, map}
use Rattle.redo_gather.specs.Private.Posting.{IsSharePosted}
use Rattle.redo_gather.specs.Sending.{numbered_source}
use Rattle.redo_gather.proofs.sending.send.Given as goal

-- All that is expected for the first streams was posted.
abbrev pub invariant-loop-stream : goal.invariant-loop-stream
invariant-loop-stream g l =
    (l.fn.share.items ≡ l.yielded ++ l.stream-iterator.rest.items)
    × IsSharePosted l.max_bytes (map (numbered_source g.R.Feed.contents) l.yielded) l.fn.end l.end
