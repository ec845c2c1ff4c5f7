use Rattle.redo_page.specs.Article.{article_parts}
use Rattle.redo_page.proofs.WriterLemmas.{wrote_next}
use Rattle.redo_page.proofs.article.write_articles.Goals as goal

pub loop-position-preserved : goal.loop-position-preserved
loop-position-preserved g c = wrote_next
    (article_parts c.args.table.now c.args.nodes.now c.args.recipes.now) c.args.positions.now c.loop-position.position-index 0
    c.loop-position-test.true
    c.loop-position.invariant c.write_article.ensures
