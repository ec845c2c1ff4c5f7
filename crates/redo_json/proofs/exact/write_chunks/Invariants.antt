use Rattle.std.proofs.Common.{length}
use Rattle.json.specs.Print.{escape}
use Rattle.redo_json.specs.Text.{base64_of}
use Rattle.redo_json.specs.Private.Writing.{WroteUpTo}
use Rattle.redo_json.proofs.exact.write_chunks.Given as goal

-- Everything except the encoding of the rest was written.
abbrev pub invariant-chunks : goal.invariant-chunks
invariant-chunks g l = WroteUpTo (g.W.Sink.written l.initial.out) (g.W.Sink.written l.out) (escape (base64_of l.bytes))
    (escape (base64_of l.left))

abbrev pub decreases-chunks : goal.decreases-chunks
decreases-chunks g l = length l.left
