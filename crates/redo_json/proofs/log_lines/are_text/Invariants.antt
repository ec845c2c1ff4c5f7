use Rattle.std.proofs.Common.{length}
use Rattle.redo_outline.specs.Facts.{entries_at, texts_of}
use Rattle.redo_json.specs.Private.LogLines.{AreUtf8}
use Rattle.redo_json.proofs.log_lines.are_text.Given as goal

-- The lines before those that are left are UTF-8.
abbrev pub invariant-stretches : goal.invariant-stretches
invariant-stretches l = AreUtf8 l.left.left → AreUtf8 (texts_of (entries_at l.number l.table))

abbrev pub decreases-stretches : goal.decreases-stretches
decreases-stretches l = length l.left.left
