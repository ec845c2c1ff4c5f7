use Rattle.std.proofs.Common.{◌≡◌, ◌-◌, ◌≤◌, [], ◌++◌, length, drop}
use Rattle.redo_line.specs.Lines.{ended, rest}
use Rattle.redo_html.specs.Lines.{lines_html, style_after_lines}
use Rattle.redo_html.specs.Private.Buffering.{held, html_left}
use Rattle.redo_html.specs.Private.Writing.{WroteUpTo}
use Rattle.redo_html.proofs.styled.put_lines.Given as goal

-- Everything except the bytes in the buffer and the lines that are left was written.
abbrev pub invariant-loop-done : goal.invariant-loop-done
invariant-loop-done g l = record {
  within : l.done ≤ length l.lines;
  complete : rest (drop l.done l.lines) ≡ [];
  wrote : WroteUpTo (g.W.Sink.written l.initial.out) (g.W.Sink.written l.out)
      (held l.initial.buffer ++ lines_html l.fn.style (ended l.lines))
      (held l.buffer ++ html_left l.look (ended (drop l.done l.lines)));
  style_left : style_after_lines l.look.wanted (ended (drop l.done l.lines)) ≡ style_after_lines l.fn.style (ended l.lines);
}

abbrev pub decreases-loop-done : goal.decreases-loop-done
decreases-loop-done g l = length l.lines - l.done
