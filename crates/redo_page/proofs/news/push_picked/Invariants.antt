use Rattle.std.proofs.Common.{◌≡◌, ◌++◌, drop, map}
use Rattle.redo_compare.specs.Rounds.{picked}
use Rattle.redo_page.specs.NewSection.{line_rank}
use Rattle.redo_page.proofs.news.push_picked.Given as goal

abbrev pub invariant-loop-index : goal.invariant-loop-index
invariant-loop-index l =
    l.initial.lines.items ++ map (line_rank l.position) (picked l.new l.occurrences)
    ≡ l.lines.items ++ map (line_rank l.position) (picked (drop l.index l.new) (drop l.index l.occurrences))
