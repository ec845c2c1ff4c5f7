use Rattle.std.specs.List.{repeat}
use Rattle.redo_html.specs.Shown.{notation}
use Rattle.redo_html.specs.Private.Writing.{WroteUpTo}
use Rattle.redo_html.proofs.notation.write_notations.Given as goal

-- All notations except the `left` ones were written.
abbrev pub invariant-loop-left : goal.invariant-loop-left
invariant-loop-left g l = WroteUpTo (g.W.Sink.written l.initial.out) (g.W.Sink.written l.out) (repeat l.count (notation l.code_point))
    (repeat l.left (notation l.code_point))

abbrev pub decreases-loop-left : goal.decreases-loop-left
decreases-loop-left g l = l.left
