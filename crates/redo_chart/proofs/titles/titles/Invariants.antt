use Rattle.std.proofs.Common.{◌≡◌, map, take}
use Rattle.redo_chart.specs.Private.Fitting.{texts_in}
use Rattle.redo_chart.specs.Titles as spec
use Rattle.redo_chart.proofs.titles.titles.Given as goal

abbrev pub invariant-loop-bar : goal.invariant-loop-bar
invariant-loop-bar l = texts_in l.titles.items ≡ map (spec.title_of l.table l.nodes l.kind) (take l.bar-index l.bars)
