use Rattle.redo_json.specs.Build.{build_values}
use Rattle.redo_json.proofs.LawLemmas.{all_read}
use Rattle.redo_json.proofs.ReadingLemmas.{read_back}
use Rattle.redo_json.proofs.laws.objects_are_read.Goals as goal

pub returns-clause-object : goal.returns-clause-object
returns-clause-object c = read_back

pub returns-clause-build : goal.returns-clause-build
returns-clause-build c = λ request logs requested exact. all_read (build_values request logs requested) exact
