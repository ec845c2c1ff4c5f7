use Rattle.std.proofs.Common.{length}
use Rattle.json.specs.Print.{escape}
use Rattle.redo_json.specs.Private.Writing.{WroteUpTo}
use Rattle.redo_json.proofs.escape.write_escaped.Given as goal

-- Everything except the escaped rest was written.
abbrev pub invariant-escapes : goal.invariant-escapes
invariant-escapes g l = WroteUpTo (g.W.Sink.written l.initial.out) (g.W.Sink.written l.out) (escape l.text) (escape l.left)

abbrev pub decreases-escapes : goal.decreases-escapes
decreases-escapes g l = length l.left
