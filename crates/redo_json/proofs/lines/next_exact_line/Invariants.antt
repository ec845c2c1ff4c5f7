use Rattle.std.proofs.Common.{◌≡◌, ◌≤◌, length}
use Rattle.redo_json.specs.Fields.{exact_items}
use Rattle.redo_json.proofs.lines.next_exact_line.Given as goal

-- No line so far has exact bytes.
abbrev pub invariant-each : goal.invariant-each
invariant-each l = record {
  fewer : length l.lines.left ≤ length l.initial.lines.left;
  fields : exact_items l.initial.lines.done l.initial.lines.left ≡ exact_items l.lines.done l.lines.left;
}

abbrev pub decreases-each : goal.decreases-each
decreases-each l = length l.lines.left
