use Rattle.redo_page.proofs.WriterLemmas.{wrote_then}
use Rattle.redo_page.proofs.recipe.write_path.Goals as goal

pub returns : goal.returns
returns g c = wrote_then c.put.ensures (wrote_then c.write_name.ensures c.put-2.ensures)
