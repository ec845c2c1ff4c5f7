use Rattle.redo_index.specs.Index.{listed_targets}
use Rattle.redo_run.proofs.Finding.{Found}
use Rattle.redo_run.proofs.running.find_targets.Given as goal

-- The first `place` arguments name these targets.
abbrev pub invariant-loop-place : goal.invariant-loop-place
invariant-loop-place l = Found (listed_targets l.index) l.arguments l.place l.targets.items
