use Rattle.std.proofs.Common.{length}
use Rattle.redo_json.specs.Fields.{exact_items}
use Rattle.redo_json.specs.Private.Parts.{comma_fields}
use Rattle.redo_json.specs.Private.Writing.{WroteUpTo}
use Rattle.redo_json.proofs.lines.write_other_lines.Given as goal

-- Everything except the exact bytes of the rest was written.
abbrev pub invariant-each : goal.invariant-each
invariant-each g l = WroteUpTo (g.W.Sink.written l.initial.out) (g.W.Sink.written l.out)
    (comma_fields (exact_items l.initial.lines.done l.initial.lines.left)) (comma_fields (exact_items l.lines.done l.lines.left))

abbrev pub decreases-each : goal.decreases-each
decreases-each g l = length l.lines.left
