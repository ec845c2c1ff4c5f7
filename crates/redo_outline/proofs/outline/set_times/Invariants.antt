use Rattle.std.proofs.Common.{◌≡◌, ◌++◌, map, take, drop}
use Rattle.redo_outline.specs.Outline.{with_times}
use Rattle.redo_outline.proofs.outline.set_times.Given as goal

abbrev pub invariant-loop-position : goal.invariant-loop-position
invariant-loop-position l = l.nodes ≡ map (with_times l.times) (take l.position l.initial.nodes) ++ drop l.position l.initial.nodes
