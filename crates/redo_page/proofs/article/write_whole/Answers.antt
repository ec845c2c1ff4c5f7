use Rattle.redo_page.specs.Article.{whole_parts}
use Rattle.redo_page.proofs.WriterLemmas.{wrote_then}
use Rattle.redo_page.proofs.article.write_whole.Goals as goal

pub returns : goal.returns
unfolding whole_parts
returns g c = wrote_then c.put.ensures (wrote_then c.write_lines.ensures c.put-2.ensures)
