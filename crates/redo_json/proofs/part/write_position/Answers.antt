use Rattle.std.proofs.Common.{ap, ◌∙◌}
use Rattle.std.specs.Prelude.{decimal}
use Rattle.json.specs.Print.{escape}
use Rattle.redo_json.proofs.WritingLemmas.{writes_as}
use Rattle.redo_json.proofs.part.write_position.Goals as goal

pub returns : goal.returns
returns g c =
    writes_as _ _ _ (escape (decimal c.args.value)) _
    (ap escape (c.as_bytes.ensures.value ∙ c.format.ensures.text)) c.write_escaped.ensures
