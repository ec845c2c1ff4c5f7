use Rattle.redo_chart.proofs.RowLemmas.{are_in_rows}
use Rattle.redo_chart.proofs.laws.bars_are_in_rows.Goals as goal

pub returns : goal.returns
returns c = are_in_rows
