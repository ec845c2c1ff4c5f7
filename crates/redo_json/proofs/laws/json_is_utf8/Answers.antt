use Rattle.redo_json.specs.Build.{build_values}
use Rattle.redo_json.proofs.LawLemmas.{all_utf8}
use Rattle.redo_json.proofs.Utf8Lemmas.{object_utf8}
use Rattle.redo_json.proofs.laws.json_is_utf8.Goals as goal

pub returns-clause-object : goal.returns-clause-object
returns-clause-object c = object_utf8

pub returns-clause-build : goal.returns-clause-build
returns-clause-build c = λ request logs requested. all_utf8 (build_values request logs requested)
