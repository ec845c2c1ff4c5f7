use Rattle.std.proofs.Common.{◌≡◌, take}
use Rattle.redo_index.specs.Index.{must_close_flags}
use Rattle.redo_index.proofs.index.Index.must_close_flags.Given as goal

-- `flags` holds the flags of the first `i` targets.
abbrev pub invariant-loop-i : goal.invariant-loop-i
invariant-loop-i l = l.flags.items ≡ take l.i (must_close_flags l.self)
