use Rattle.std.proofs.Common.{◌≡◌, sum_by, take}
use Rattle.redo_outline.specs.Facts.{saturated}
use Rattle.redo_summary.specs.Ranks.{duration}
use Rattle.redo_summary.proofs.totals.sum_of.Given as goal

abbrev pub invariant-loop-span : goal.invariant-loop-span
invariant-loop-span l = l.sum ≡ saturated (sum_by duration (take l.span-index l.recipes))
