use Rattle.redo_logs.specs.Logs.{targets_of}
use Rattle.redo_gather.specs.Streams.{known_input}
use Rattle.redo_gather.proofs.ReaderLoopLemmas.{Underway}
use Rattle.redo_gather.proofs.plain.gather_into.Given as goal

-- The streams of the first readers were read.
abbrev pub invariant-loop-must_close : goal.invariant-loop-must_close
invariant-loop-must_close g l =
    Underway (known_input g.R.Feed.contents) l.max_bytes
    (targets_of l.initial.table) l.fn.readers.items l.yielded l.must_close-iterator.rest.items l.number l.table
