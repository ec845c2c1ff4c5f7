use Rattle.std.proofs.Common.{length}
use Rattle.std.specs.Str.Lossy.{utf8_lossy}
use Rattle.json.specs.Print.{escape}
use Rattle.redo_json.specs.Text.{text_of}
use Rattle.redo_json.specs.Private.Writing.{WroteUpTo}
use Rattle.redo_json.proofs.string.write_text.Given as goal

-- Everything except the text of the rest was written.
abbrev pub invariant-pieces : goal.invariant-pieces
invariant-pieces g l = WroteUpTo (g.W.Sink.written l.initial.out) (g.W.Sink.written l.out) (escape (text_of l.bytes))
    (escape (utf8_lossy l.left))

abbrev pub decreases-pieces : goal.decreases-pieces
decreases-pieces g l = length l.left
