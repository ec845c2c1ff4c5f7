use Rattle.std.proofs.Common.{[], sym, ap}
use Rattle.redo_page.specs.Recipe.{commands_parts, recipe_parts}
use Rattle.redo_page.proofs.PartLoops.{wrote_as, wrote_nothing}
use Rattle.redo_page.proofs.recipe.write_recipe.Goals as goal

pub returns-in_default : goal.returns-in_default
unfolding recipe_parts commands_parts
returns-in_default g c =
    let page = c.args.page.now in
    wrote_as g.W.Sink.written page page [] _ (sym (ap recipe_parts c.in_default.ensures.none)) (wrote_nothing g.W.Sink.written page)
