use Rattle.redo_name.proofs.NameLaws.{beside, within, absolute_alone}
use Rattle.redo_name.proofs.laws.base_directory_rules.Goals as goal

pub returns-clause-beside : goal.returns-clause-beside
returns-clause-beside c = beside

pub returns-clause-within : goal.returns-clause-within
returns-clause-within c = within

pub returns-clause-absolute : goal.returns-clause-absolute
returns-clause-absolute c = absolute_alone
