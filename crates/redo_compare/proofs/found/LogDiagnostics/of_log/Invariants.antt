use Rattle.std.proofs.Common.{length}
use Rattle.redo_outline.specs.Facts.{entries_at, texts_of}
use Rattle.redo_compare.specs.Private.Finding.{IsFoundBefore}
use Rattle.redo_compare.proofs.found.LogDiagnostics.of_log.Given as goal

abbrev pub invariant-lines : goal.invariant-lines
invariant-lines l = IsFoundBefore (texts_of (entries_at l.number l.table)) l.lines l.found

abbrev pub decreases-lines : goal.decreases-lines
decreases-lines l = length l.lines.left
