use Rattle.std.proofs.Common.{take}
use Rattle.std.specs.List.{flat_map}
use Rattle.redo_page.specs.Article.{article_parts}
use Rattle.redo_page.specs.Private.Writing.{WroteParts}
use Rattle.redo_page.proofs.article.write_articles.Given as goal

abbrev pub invariant-loop-position : goal.invariant-loop-position
invariant-loop-position g l = WroteParts g.W.Sink.written l.initial.page l.page
    (flat_map (article_parts l.table l.nodes l.recipes) (take l.position-index l.positions))
