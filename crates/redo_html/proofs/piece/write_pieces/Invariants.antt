use Rattle.std.proofs.Common.{◌≡◌, map, take}
use Rattle.std.specs.List.{flat_map}
use Rattle.redo_device.specs.Sink.{append_output}
use Rattle.redo_html.specs.Parts.{part_html, part_of}
use Rattle.redo_html.proofs.piece.write_pieces.Given as goal

-- The pieces so far were written.
abbrev pub invariant-loop-piece : goal.invariant-loop-piece
invariant-loop-piece g l = g.W.Sink.written l.out
    ≡ append_output (g.W.Sink.written l.initial.out) (flat_map part_html (map part_of (take l.piece-index l.pieces))) 0
