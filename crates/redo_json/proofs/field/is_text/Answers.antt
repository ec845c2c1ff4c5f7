use Rattle.redo_json.proofs.PartLemmas.{test_is}
use Rattle.redo_json.proofs.field.is_text.Goals as goal

pub returns : goal.returns
returns c = test_is c.is_utf8.result c.args.bytes.now c.is_utf8.ensures
