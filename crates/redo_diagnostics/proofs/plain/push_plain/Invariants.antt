use Rattle.std.proofs.Common.{◌≡◌, ◌++◌, length}
use Rattle.redo_diagnostics.specs.Plain.{plain_line}
use Rattle.redo_diagnostics.proofs.plain.push_plain.Given as goal

-- The line before `left` was appended.
abbrev pub invariant-escapes : goal.invariant-escapes
invariant-escapes l = l.plain.items ++ plain_line l.left ≡ l.initial.plain.items ++ plain_line l.line

abbrev pub decreases-escapes : goal.decreases-escapes
decreases-escapes l = length l.left
