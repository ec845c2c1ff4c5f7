use Rattle.std.proofs.Common.{rules}
use Rattle.redo_command.proofs.log_file.LogFileFeed.pull.Goals as goal

pub returns-in-Missing-clause-gives : goal.returns-in-Missing-clause-gives
returns-in-Missing-clause-gives g c = search rules
