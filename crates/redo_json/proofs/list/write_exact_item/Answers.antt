use Rattle.redo_json.specs.Private.Parts.{exact_item}
use Rattle.redo_json.proofs.PartLemmas.{numbered_exact}
use Rattle.redo_json.proofs.WritingLemmas.{writes_as}
use Rattle.redo_json.proofs.list.write_exact_item.Goals as goal

pub returns : goal.returns
returns g c =
    let position = c.args.position in
    let bytes = c.args.bytes.now in
    writes_as _ _ _ (exact_item position bytes) _ (numbered_exact position bytes) c.write_parts.ensures
