use Rattle.redo_gather.proofs.ExpectedLaws.{expects_concatenation, expects_nothing, expects_one}
use Rattle.redo_gather.proofs.laws.expected_for_share.Goals as goal

pub returns-clause-nothing : goal.returns-clause-nothing
returns-clause-nothing c = expects_nothing

pub returns-clause-one : goal.returns-clause-one
returns-clause-one c = expects_one

pub returns-clause-concatenation : goal.returns-clause-concatenation
returns-clause-concatenation c = expects_concatenation
