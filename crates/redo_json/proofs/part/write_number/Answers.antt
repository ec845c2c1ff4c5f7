use Rattle.std.proofs.Common.{◌∙◌}
use Rattle.std.specs.Prelude.{decimal}
use Rattle.redo_json.proofs.WritingLemmas.{writes_as}
use Rattle.redo_json.proofs.part.write_number.Goals as goal

pub returns : goal.returns
returns g c = writes_as _ _ _ (decimal c.args.value) _ (c.as_bytes.ensures.value ∙ c.format.ensures.text) c.push_all.ensures
