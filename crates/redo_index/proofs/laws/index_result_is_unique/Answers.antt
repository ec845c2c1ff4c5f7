use Rattle.redo_index.proofs.IndexLaws.{either, one}
use Rattle.redo_index.proofs.laws.index_result_is_unique.Goals as goal

pub returns-clause-either : goal.returns-clause-either
returns-clause-either c = either

pub returns-clause-one : goal.returns-clause-one
returns-clause-one c = one
