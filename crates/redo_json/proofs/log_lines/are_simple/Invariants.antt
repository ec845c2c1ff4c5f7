use Rattle.std.proofs.Common.{length}
use Rattle.redo_outline.specs.Facts.{entries_at, texts_of}
use Rattle.redo_json.specs.Private.LogLines.{AreSimple}
use Rattle.redo_json.proofs.log_lines.are_simple.Given as goal

-- The lines before those that are left are simple.
abbrev pub invariant-stretches : goal.invariant-stretches
invariant-stretches l = AreSimple l.left.left → AreSimple (texts_of (entries_at l.number l.table))

abbrev pub decreases-stretches : goal.decreases-stretches
decreases-stretches l = length l.left.left
