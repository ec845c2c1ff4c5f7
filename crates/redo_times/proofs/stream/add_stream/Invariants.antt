use Rattle.std.proofs.Common.{◌≡◌, length}
use Rattle.redo_index.specs.Index.{listed_targets}
use Rattle.redo_times.proofs.StreamLemmas.{Reading}
use Rattle.redo_times.proofs.stream.add_stream.Given as goal

abbrev pub invariant-reads : goal.invariant-reads
invariant-reads g l = record {
  chunk : length l.chunk ≡ length l.initial.chunk;
  tallies : length l.tallies ≡ length l.initial.tallies;
  reading :
      Reading (listed_targets l.index) l.log.target.now l.max_bytes l.left (g.R.Feed.contents l.initial.reader)
      (g.R.Feed.contents l.reader) l.partial.items l.initial.tallies l.tallies;
}

abbrev pub decreases-reads : goal.decreases-reads
decreases-reads g l = l.left
