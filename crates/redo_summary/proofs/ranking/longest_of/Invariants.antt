use Rattle.std.proofs.Common.{◌≡◌, drop}
use Rattle.redo_summary.specs.Ranks.{longest_of}
use Rattle.redo_summary.proofs.ranking.longest_of.Given as goal

abbrev pub invariant-loop-i : goal.invariant-loop-i
invariant-loop-i l = l.ranks.items ≡ longest_of (drop l.i l.recipes)
