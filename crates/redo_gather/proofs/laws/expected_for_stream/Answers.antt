use Rattle.redo_gather.proofs.ExpectedLaws.{may_owe_all, may_owe_prefix, expects_fault, expects_in_order, expects_log}
use Rattle.redo_gather.proofs.laws.expected_for_stream.Goals as goal

pub returns-clause-order : goal.returns-clause-order
returns-clause-order c = expects_in_order

pub returns-clause-log : goal.returns-clause-log
returns-clause-log c = expects_log

pub returns-clause-fault : goal.returns-clause-fault
returns-clause-fault c = expects_fault

pub returns-clause-all : goal.returns-clause-all
returns-clause-all c = may_owe_all

pub returns-clause-prefix : goal.returns-clause-prefix
returns-clause-prefix c = may_owe_prefix
