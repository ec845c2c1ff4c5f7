use Rattle.redo_line.proofs.ScanEnds.{nothing_yet}
use Rattle.redo_line.proofs.progress.Progress.new.Goals as goal

pub returns-clause-after : goal.returns-clause-after
returns-clause-after c = nothing_yet c.args.target c.args.max_bytes c.new-2.result c.new-2.ensures
