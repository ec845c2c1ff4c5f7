use Rattle.std.proofs.Common.{◌≤◌, length}
use Rattle.redo_compare.specs.Rounds.{picked}
use Rattle.redo_new.specs.News.{diagnostic_lines}
use Rattle.redo_new.specs.Private.Sections.{new_among, new_text}
use Rattle.redo_new.specs.Private.Writing.{WroteUpTo}
use Rattle.redo_new.proofs.lines.write_flagged.Given as goal

-- The lines so far were written, and `next` of them at most are diagnostics.
abbrev pub invariant-lines : goal.invariant-lines
invariant-lines g l =
    WroteUpTo (g.W.Sink.written l.initial.out) (g.W.Sink.written l.out)
    (new_text l.target (picked l.flags (diagnostic_lines l.table l.number)))
    (new_text l.target (new_among l.flags l.next l.lines.left))
    × (l.next ≤ l.lines.done)

abbrev pub decreases-lines : goal.decreases-lines
decreases-lines g l = length l.lines.left
