use Rattle.std.proofs.Common.{◌∙◌}
use Rattle.redo_json.proofs.JoinLemmas.{appended_as}
use Rattle.redo_json.proofs.joined.join_number.Goals as goal

pub returns : goal.returns
returns c = appended_as _ _ _ _ _ (c.as_bytes.ensures.value ∙ c.format.ensures.text) c.join_bytes.ensures
