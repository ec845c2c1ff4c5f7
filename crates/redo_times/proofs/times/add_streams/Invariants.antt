use Rattle.std.proofs.Common.{◌≡◌, ◌<◌, ◌++◌, length, map}
use Rattle.redo_index.specs.Index.{listed_targets}
use Rattle.redo_times.specs.Private.Tally.{AreTalliesOfReaders}
use Rattle.redo_times.proofs.times.add_streams.Given as goal

-- The streams of the first readers were read.
abbrev pub invariant-loop-reader : goal.invariant-loop-reader
invariant-loop-reader g l = record {
  room : 0 < length l.chunk;
  count : length l.tallies ≡ length l.index;
  readers : l.yielded ++ l.reader-iterator.rest.items ≡ l.fn.readers.items;
  number : l.i ≡ length l.yielded;
  read : length l.read.items ≡ length l.yielded;
  tallies : AreTalliesOfReaders l.max_bytes (listed_targets l.index) (map g.R.Feed.contents l.yielded) l.tallies;
}
