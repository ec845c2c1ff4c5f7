use Rattle.std.proofs.Common.{◌≡◌, ◌-◌, ◌≤◌, length, drop}
use Rattle.redo_html.specs.Private.Highlighting.{html_from}
use Rattle.redo_html.specs.Private.Writing.{WroteUpTo, style_in}
use Rattle.redo_html.proofs.passage.write_rest.Given as goal

-- Everything except the rest of the passage was written.
abbrev pub invariant-loop-done : goal.invariant-loop-done
invariant-loop-done g l = record {
  within : l.done ≤ length l.bytes;
  wrote : WroteUpTo (g.W.Sink.written l.initial.out) (g.W.Sink.written l.out) (html_from l.kind l.initial.look l.bytes)
      (html_from l.kind l.look (drop l.done l.bytes));
  style_left : style_in l.kind l.look.wanted (drop l.done l.bytes) ≡ style_in l.kind l.initial.look.wanted l.bytes;
}

abbrev pub decreases-loop-done : goal.decreases-loop-done
decreases-loop-done g l = length l.bytes - l.done
