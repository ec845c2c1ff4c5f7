use Rattle.std.proofs.Common.{◌≡◌, take}
use Rattle.redo_index.specs.Index.{numbers_of}
use Rattle.redo_facts.proofs.lines.numbers_of.Given as goal

-- `numbers` holds the numbers of the first `i` targets.
abbrev pub invariant-loop-i : goal.invariant-loop-i
invariant-loop-i l = l.numbers.keys ≡ take l.i (numbers_of l.index)
