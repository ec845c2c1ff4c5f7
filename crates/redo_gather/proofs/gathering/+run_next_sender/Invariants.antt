use Rattle.std.proofs.Common.{length}
use Rattle.redo_gather.proofs.gathering.+run_next_sender.Given as goal

abbrev pub decreases-run_next_sender : goal.decreases-run_next_sender
decreases-run_next_sender g l = length l.ends.items
