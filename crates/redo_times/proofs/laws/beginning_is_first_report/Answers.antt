use Rattle.redo_times.proofs.TimesLaws.{beginning-before, beginning-first, beginning-unknown}
use Rattle.redo_times.proofs.laws.beginning_is_first_report.Goals as goal

pub returns-clause-first : goal.returns-clause-first
returns-clause-first c = beginning-first

pub returns-clause-before_end : goal.returns-clause-before_end
returns-clause-before_end c = beginning-before

pub returns-clause-unknown : goal.returns-clause-unknown
returns-clause-unknown c = beginning-unknown
