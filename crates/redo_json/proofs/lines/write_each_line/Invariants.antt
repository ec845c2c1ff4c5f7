use Rattle.std.proofs.Common.{◌≡◌, true, length}
use Rattle.redo_line.specs.Lines.{ended}
use Rattle.redo_json.specs.Private.Lines.{lines_text}
use Rattle.redo_json.specs.Private.LogLines.{AreUtf8}
use Rattle.redo_json.specs.Private.Writing.{WroteUpTo}
use Rattle.redo_json.proofs.lines.write_each_line.Given as goal

-- Everything except the strings of the lines that are left was written.
abbrev pub invariant-lines : goal.invariant-lines
invariant-lines g l = record {
  wrote : WroteUpTo (g.W.Sink.written l.initial.out) (g.W.Sink.written l.out) (lines_text l.initial.is_first (ended l.initial.lines))
      (lines_text l.is_next_first (ended l.left));
  text : l.are_text ≡ true → AreUtf8 (ended l.left);
}

abbrev pub decreases-lines : goal.decreases-lines
decreases-lines g l = length l.left
