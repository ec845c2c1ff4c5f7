use Rattle.std.proofs.Common.{sym, ap, ◌∙◌}
use Rattle.redo_gather.specs.Streams.{logs_of, fault_among}
use Rattle.redo_gather.proofs.StreamLemmas.{all_known}
use Rattle.redo_gather.proofs.laws.known_streams_decide.Goals as goal

pub returns-clause-streams : goal.returns-clause-streams
returns-clause-streams c = all_known

pub returns-clause-logs : goal.returns-clause-logs
returns-clause-logs c max_bytes targets streams logs are = ap (logs_of max_bytes targets) (sym (all_known streams are.0 are.1)) ∙ are.2

pub returns-clause-fault : goal.returns-clause-fault
returns-clause-fault c max_bytes targets streams number fault is =
    ap (fault_among max_bytes targets) (sym (all_known streams is.0 is.1)) ∙ is.2
