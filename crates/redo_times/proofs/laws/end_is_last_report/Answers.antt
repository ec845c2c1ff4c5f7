use Rattle.redo_times.proofs.TimesLaws.{end-last, other-unknown, own-unknown}
use Rattle.redo_times.proofs.laws.end_is_last_report.Goals as goal

pub returns-clause-last : goal.returns-clause-last
returns-clause-last c = end-last

pub returns-clause-unknown_by_own_log : goal.returns-clause-unknown_by_own_log
returns-clause-unknown_by_own_log c = own-unknown

pub returns-clause-unknown_by_other_logs : goal.returns-clause-unknown_by_other_logs
returns-clause-unknown_by_other_logs c = other-unknown
