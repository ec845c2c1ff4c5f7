use Rattle.std.proofs.Common.{true, length, option_copied}
use Rattle.redo_outline.specs.Facts.{entries_at, texts_of}
use Rattle.redo_json.specs.Diagnostics.{diagnostics_of, flagged}
use Rattle.redo_json.specs.Private.Diagnosing.{WroteDiagnostics}
use Rattle.redo_json.specs.Private.LogLines.{AreOfKind}
use Rattle.redo_json.specs.Private.Parts.{diagnostics_text}
use Rattle.redo_json.proofs.diagnostics.write_each.Given as goal

-- The diagnostics of the lines so far were written, and the others are of the log's kind.
abbrev pub invariant-each : goal.invariant-each
invariant-each g l =
    WroteDiagnostics (g.W.Sink.written l.initial.out) (g.W.Sink.written l.out)
    (diagnostics_text true (flagged (option_copied l.initial.flags) (diagnostics_of (texts_of (entries_at l.number l.table))))) l.is_first
    (option_copied l.left) l.lines l.counts l.buffer.items
    × AreOfKind l.kind l.lines.left

abbrev pub decreases-each : goal.decreases-each
decreases-each g l = length l.lines.left
