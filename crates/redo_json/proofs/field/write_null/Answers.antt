use Rattle.json.specs.Json.{null}
use Rattle.redo_json.specs.Fields.{field}
use Rattle.redo_json.specs.Private.Parts.{comma_field}
use Rattle.redo_json.proofs.PartLemmas.{named_null}
use Rattle.redo_json.proofs.WritingLemmas.{writes_as}
use Rattle.redo_json.proofs.field.write_null.Goals as goal

pub returns : goal.returns
returns g c = writes_as _ _ _ (comma_field (field c.args.name.now null)) _ (named_null c.args.name.now) c.write_parts.ensures
