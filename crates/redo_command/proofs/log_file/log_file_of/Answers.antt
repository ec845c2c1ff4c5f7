use Rattle.std.proofs.Common.{rules}
use Rattle.redo_command.proofs.log_file.log_file_of.Goals as goal

pub returns-in_default-clause-log_file : goal.returns-in_default-clause-log_file
returns-in_default-clause-log_file g c = search rules
