use Rattle.std.proofs.Common.{◌≡◌, ◌++◌, length}
use Rattle.json.specs.Print.{escape}
use Rattle.redo_json.proofs.escape.join_escaped.Given as goal

-- Everything except the escaped rest was appended.
abbrev pub invariant-escapes : goal.invariant-escapes
invariant-escapes l = l.joined.items ++ escape l.left ≡ l.initial.joined.items ++ escape l.text

abbrev pub decreases-escapes : goal.decreases-escapes
decreases-escapes l = length l.left
