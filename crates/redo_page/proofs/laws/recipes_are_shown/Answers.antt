use Rattle.std.proofs.Common.{List, sym, subst}
use Rattle.redo_html.specs.Parts.{Part}
use Rattle.redo_page.specs.Laws.{ShowsRecipe}
use Rattle.redo_page.specs.Page.{page_outline}
use Rattle.redo_page.specs.Recipe.{recipe_at}
use Rattle.redo_page.specs.Tree.{node_at}
use Rattle.redo_page.proofs.PageElements.{has_article, in_article_of, only_article}
use Rattle.redo_page.proofs.RecipeParts.{article_shows_recipe}
use Rattle.redo_page.proofs.laws.recipes_are_shown.Goals as goal

pub returns-clause-articles : goal.returns-clause-articles
returns-clause-articles c = λ request logs requested position among.
    (in_article_of request logs requested position, has_article request logs requested position among)

pub returns-clause-recipes : goal.returns-clause-recipes
returns-clause-recipes c = λ request logs requested position inside is.
    let recipe = recipe_at request.recipes (node_at (page_outline request logs requested) position).number in
    subst (λ (parts : List Part). ShowsRecipe recipe parts)
    (sym (only_article request logs requested c.positions_are_of_nodes.ensures.times c.positions_are_of_nodes.ensures.memory
    c.bars_lead_to_positions.ensures c.trimmed_events_are_in_tree.ensures.logs position inside is))
    (article_shows_recipe logs (page_outline request logs requested) request.recipes position)
