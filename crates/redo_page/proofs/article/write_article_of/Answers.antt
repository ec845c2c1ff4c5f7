use Rattle.redo_page.specs.Article.{article_of}
use Rattle.redo_page.proofs.WriterLemmas.{wrote_then}
use Rattle.redo_page.proofs.article.write_article_of.Goals as goal

pub returns : goal.returns
unfolding article_of
returns g c =
    wrote_then c.put.ensures (wrote_then c.write_target.ensures (wrote_then c.write_badge.ensures (wrote_then c.put-2.ensures
    (wrote_then c.write_took.ensures (wrote_then c.write_path.ensures
    (wrote_then c.write_in_tree.ensures (wrote_then c.put-3.ensures (wrote_then c.write_recipe.ensures
    (wrote_then c.write_output.ensures c.put-4.ensures)))))))))
