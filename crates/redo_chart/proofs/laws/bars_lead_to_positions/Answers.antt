use Rattle.redo_chart.proofs.LawLemmas.{links_below}
use Rattle.redo_chart.proofs.laws.bars_lead_to_positions.Goals as goal

pub returns : goal.returns
returns c = λ logs nodes window callers recipes marks count below. links_below window count logs nodes callers recipes marks below
