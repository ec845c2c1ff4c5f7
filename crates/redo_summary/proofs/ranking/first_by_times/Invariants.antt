use Rattle.std.proofs.Common.{◌≡◌, drop}
use Rattle.redo_timeline.specs.declared.span.Span.{Span}
use Rattle.redo_timeline.specs.Alone.{alone}
use Rattle.redo_summary.specs.Window.{cut}
use Rattle.redo_summary.proofs.RankLemmas.{most_by}
use Rattle.redo_summary.proofs.ranking.first_by_times.Given as goal

abbrev pub invariant-loop-i : goal.invariant-loop-i
invariant-loop-i l = l.ranks.items ≡ most_by (λ (recipe : Span). cut (alone l.recipes recipe)) (drop l.i l.recipes)
