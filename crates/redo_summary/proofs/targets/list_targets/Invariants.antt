use Rattle.std.proofs.Common.{◌≡◌, take}
use Rattle.redo_summary.specs.Spans.{targets_of}
use Rattle.redo_summary.proofs.targets.list_targets.Given as goal

abbrev pub invariant-loop-position : goal.invariant-loop-position
invariant-loop-position l = l.targets.items ≡ targets_of (take l.position l.nodes) l.times
