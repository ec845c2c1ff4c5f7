use Rattle.redo_name.proofs.NameLaws.{empty_goes, dot_goes, goes_with_upward, stay}
use Rattle.redo_name.proofs.laws.segment_rules.Goals as goal

pub returns-clause-empty : goal.returns-clause-empty
returns-clause-empty c = empty_goes

pub returns-clause-dot : goal.returns-clause-dot
returns-clause-dot c = dot_goes

pub returns-clause-upward : goal.returns-clause-upward
returns-clause-upward c = goes_with_upward

pub returns-clause-left : goal.returns-clause-left
returns-clause-left c = stay
