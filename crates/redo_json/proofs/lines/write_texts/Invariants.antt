use Rattle.std.proofs.Common.{true, length}
use Rattle.redo_outline.specs.Facts.{entries_at, texts_of}
use Rattle.redo_json.specs.Private.Lines.{lines_left}
use Rattle.redo_json.specs.Private.LogLines.{AreOfKind}
use Rattle.redo_json.specs.Private.Parts.{items_text}
use Rattle.redo_json.specs.Private.Writing.{WroteUpTo}
use Rattle.redo_json.proofs.lines.write_texts.Given as goal

-- Everything except the lines that are left was written.
abbrev pub invariant-stretches : goal.invariant-stretches
invariant-stretches g l = record {
  wrote : WroteUpTo (g.W.Sink.written l.initial.out) (g.W.Sink.written l.out)
      (items_text true (texts_of (entries_at l.number l.table))) (lines_left l.is_first l.left.left);
  of_kind : AreOfKind l.kind l.left.left;
}

abbrev pub decreases-stretches : goal.decreases-stretches
decreases-stretches g l = length l.left.left
