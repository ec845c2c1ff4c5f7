use Rattle.redo_summary.proofs.TargetLemmas.{no_target}
use Rattle.redo_summary.proofs.TimeLemmas.{first_more}
use Rattle.redo_summary.proofs.window.first_time.Goals as goal

pub loop-target-preserved : goal.loop-target-preserved
loop-target-preserved c = let more = first_more c.args.targets.now c.loop-target.target-index no_target c.loop-target-test.true in cc
