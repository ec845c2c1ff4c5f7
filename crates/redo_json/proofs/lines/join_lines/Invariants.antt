use Rattle.std.proofs.Common.{◌≡◌, ◌++◌, true, length}
use Rattle.redo_line.specs.Lines.{ended}
use Rattle.redo_json.specs.Private.Lines.{lines_text}
use Rattle.redo_json.specs.Private.LogLines.{ArePlainLines, AreUtf8}
use Rattle.redo_json.proofs.lines.join_lines.Given as goal

-- The lines so far were appended.
abbrev pub invariant-lines : goal.invariant-lines
invariant-lines l = record {
  appended : l.joined.items ++ lines_text l.is_next_first (ended l.left)
      ≡ l.initial.joined.items ++ lines_text l.initial.is_first (ended l.initial.lines);
  text : AreUtf8 (ended l.left);
  plain : l.are_plain ≡ true → ArePlainLines (ended l.left);
}

abbrev pub decreases-lines : goal.decreases-lines
decreases-lines l = length l.left
