use Rattle.std.proofs.Common.{◌≡◌, drop}
use Rattle.redo_summary.specs.Usage.{most_memory}
use Rattle.redo_summary.proofs.usage.most_memory.Given as goal

abbrev pub invariant-loop-i : goal.invariant-loop-i
invariant-loop-i l = l.ranks.items ≡ most_memory l.nodes l.facts (drop l.i l.recipes)
