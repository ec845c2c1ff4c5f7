use Rattle.std.proofs.Common.{◌≡◌, take}
use Rattle.std.specs.List.{flat_map}
use Rattle.redo_device.specs.Sink.{append_output}
use Rattle.redo_json.specs.Private.Parts.{part_text}
use Rattle.redo_json.proofs.part.write_parts.Given as goal

-- The parts so far were written.
abbrev pub invariant-loop-part : goal.invariant-loop-part
invariant-loop-part g l = g.W.Sink.written l.out
    ≡ append_output (g.W.Sink.written l.initial.out) (flat_map part_text (take l.part-index l.parts)) 0
