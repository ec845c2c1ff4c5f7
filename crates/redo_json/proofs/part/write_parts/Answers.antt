use Rattle.std.proofs.Common.{suc, take, drop}
use Rattle.std.specs.List.{flat_map}
use Rattle.redo_device.proofs.WritesLemmas.{in_middle}
use Rattle.redo_json.specs.Private.Parts.{part_text}
use Rattle.redo_json.proofs.PartLemmas.{one_of}
use Rattle.redo_json.proofs.part.write_parts.Goals as goal

pub returns-in_err-write_part : goal.returns-in_err-write_part
returns-in_err-write_part g c =
    let parts = c.args.parts.now in
    let i = c.loop-part.part-index in
    in_middle _ (flat_map part_text parts) _ _ (flat_map part_text (take i parts)) _ (flat_map part_text (drop (suc i) parts)) _ _
    c.from_residual.ensures.0 c.loop-part.invariant c.in_err-write_part.ensures (one_of part_text parts i _ c.loop-part-test.true)
