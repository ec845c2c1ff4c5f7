use Rattle.std.proofs.Common.{◌-◌, ◌≤◌, length, take}
use Rattle.redo_line.specs.Private.CutLine.{AreTextLines}
use Rattle.redo_line.proofs.leading_text.text_lines.Given as goal

-- The text lines so far.
abbrev pub invariant-lines : goal.invariant-lines
invariant-lines l = (l.length ≤ length l.bytes) × (l.count ≤ l.max_lines) × AreTextLines (take l.length l.bytes) l.count

abbrev pub decreases-lines : goal.decreases-lines
decreases-lines l = l.max_lines - l.count
