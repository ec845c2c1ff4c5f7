use Rattle.std.proofs.Common.{◌≡◌, ◌-◌, ◌≤◌, [], drop, length}
use Rattle.std.specs.List.{flat_map}
use Rattle.redo_html.specs.Parts.{part_html}
use Rattle.redo_line.specs.Lines.{ended, rest}
use Rattle.redo_page.specs.Private.Texts.{WroteUpTo, after_lines, lines_parts}
use Rattle.redo_page.proofs.texts.write_lines.Given as goal

-- Everything except the lines that are left was written.
abbrev pub invariant-chunks : goal.invariant-chunks
invariant-chunks g l = record {
  within : l.done ≤ length l.lines;
  complete : rest (drop l.done l.lines) ≡ [];
  wrote : WroteUpTo (g.W.Sink.written l.initial.out) (g.W.Sink.written l.out)
      (flat_map part_html (lines_parts l.fn.pending (ended l.lines)))
      (flat_map part_html (lines_parts l.pending (ended (drop l.done l.lines))));
  state : after_lines l.pending (ended (drop l.done l.lines)) ≡ after_lines l.fn.pending (ended l.lines);
}

abbrev pub decreases-chunks : goal.decreases-chunks
decreases-chunks g l = length l.lines - l.done
