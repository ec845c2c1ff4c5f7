use Rattle.std.proofs.Common.{◌≡◌, ◌-◌, ◌≤◌, [], drop, length}
use Rattle.redo_line.specs.Lines.{ended, rest}
use Rattle.redo_view.specs.Form.{bytes_of, state_after, text_events}
use Rattle.redo_trim.specs.TrimmedForm.{form_after, form_bytes}
use Rattle.redo_trim.specs.Private.Writing.{WroteUpTo}
use Rattle.redo_trim.proofs.trimmed.TrimmedForm.write_texts.Given as goal

-- Everything except the lines that are left was written.
abbrev pub invariant-lines : goal.invariant-lines
invariant-lines g l = record {
  within : l.done ≤ length l.lines;
  complete : rest (drop l.done l.lines) ≡ [];
  wrote : WroteUpTo (g.W.Sink.written l.initial.out) (g.W.Sink.written l.out)
      (bytes_of (form_bytes g.F.Form.bytes g.F.Form.after) (form_after g.F.Form.after) l.fn.self (text_events l.depth (ended l.lines)))
      (bytes_of (form_bytes g.F.Form.bytes g.F.Form.after) (form_after g.F.Form.after) l.self
      (text_events l.depth (ended (drop l.done l.lines))));
  state : state_after (form_after g.F.Form.after) l.self (text_events l.depth (ended (drop l.done l.lines)))
      ≡ state_after (form_after g.F.Form.after) l.fn.self (text_events l.depth (ended l.lines));
}

abbrev pub decreases-lines : goal.decreases-lines
decreases-lines g l = length l.lines - l.done
