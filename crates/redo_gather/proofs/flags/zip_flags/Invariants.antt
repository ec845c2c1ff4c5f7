use Rattle.std.proofs.Common.{◌≡◌, ◌++◌, length, zip}
use Rattle.redo_gather.proofs.flags.zip_flags.Given as goal

-- The first readers have their must-close flags.
abbrev pub invariant-loop-reader : goal.invariant-loop-reader
invariant-loop-reader g l =
    (length l.pairs.items ≡ length l.yielded)
    × (l.fn.readers.items ≡ l.yielded ++ l.reader-iterator.rest.items)
    × (l.pairs.items ≡ zip l.flags.items l.yielded)
