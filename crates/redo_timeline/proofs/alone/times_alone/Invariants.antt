use Rattle.std.proofs.Common.{◌≡◌, map, take}
use Rattle.redo_timeline.specs.Alone.{alone}
use Rattle.redo_timeline.proofs.alone.times_alone.Given as goal

abbrev pub invariant-loop-span : goal.invariant-loop-span
invariant-loop-span l = l.times.items ≡ map (alone l.spans) (take l.span-index l.spans)
