use Rattle.std.proofs.Common.{◌≡◌, ◌-◌, ◌≤◌, length}
use Rattle.redo_outline.specs.Facts.{entries_at}
use Rattle.redo_outline.specs.Private.TextLines.{texts_from}
use Rattle.redo_outline.proofs.text_lines.next_lines.Given as goal

abbrev pub invariant-entries : goal.invariant-entries
invariant-entries l = record {
  after : l.next ≤ l.at;
  same : texts_from l.logs.logs l.number l.next ≡ texts_from l.logs.logs l.number l.at;
}

abbrev pub decreases-entries : goal.decreases-entries
decreases-entries l = length (entries_at l.number l.logs.logs) - l.at
