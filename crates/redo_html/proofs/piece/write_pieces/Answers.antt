use Rattle.std.proofs.Common.{suc, map, take, drop, get_or}
use Rattle.std.specs.List.{flat_map}
use Rattle.redo_html.specs.declared.markup.Markup.TheVariants.{Doctype}
use Rattle.redo_html.specs.declared.piece.Piece.TheVariants.{Markup}
use Rattle.redo_html.specs.Parts.{part_html, part_of}
use Rattle.redo_device.proofs.WritesLemmas.{in_middle}
use Rattle.redo_html.proofs.WritingLemmas.{one_among}
use Rattle.redo_html.proofs.piece.write_pieces.Goals as goal

pub returns-in_err-write_piece : goal.returns-in_err-write_piece
returns-in_err-write_piece g c =
    let pieces = c.args.pieces.now in
    let i = c.loop-piece.piece-index in
    in_middle _ (flat_map part_html (map part_of pieces)) _ _ (flat_map part_html (map part_of (take i pieces)))
    (part_html (part_of (get_or pieces i (Markup Doctype)))) (flat_map part_html (map part_of (drop (suc i) pieces))) _ _
    c.from_residual.ensures.0 c.loop-piece.invariant c.in_err-write_piece.ensures
    (one_among part_html part_of pieces i (Markup Doctype) c.loop-piece-test.true)
