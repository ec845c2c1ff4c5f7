use Rattle.redo_html.proofs.PartReading.{parts_nest}
use Rattle.redo_html.proofs.laws.only_markup_decides_nesting.Goals as goal

pub returns : goal.returns
returns c = parts_nest
