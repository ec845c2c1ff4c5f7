use Rattle.std.proofs.Common.{◌≡◌, ℕ, take, List, Bor}
use Rattle.std.specs.List.{flat_map}
use Rattle.redo_device.specs.Sink.{append_output}
use Rattle.redo_new.proofs.writing.write_parts.Given as goal

-- The parts so far were written.
abbrev pub invariant-loop-part : goal.invariant-loop-part
invariant-loop-part g l = g.W.Sink.written l.out
    ≡ append_output (g.W.Sink.written l.initial.out) (flat_map (λ (part : Bor (List ℕ)). part.now) (take l.part-index l.parts)) 0
