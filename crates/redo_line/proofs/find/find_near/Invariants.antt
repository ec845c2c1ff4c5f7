use Rattle.memchr.specs.Find.{Nowhere, Passes, is_byte}
use Rattle.redo_line.proofs.find.find_near.Given as goal

-- The byte is not among the bytes compared so far.
abbrev pub invariant-loop-at : goal.invariant-loop-at
invariant-loop-at l = Nowhere (Passes (is_byte l.byte) l.bytes) 0 l.at
