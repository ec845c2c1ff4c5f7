use Rattle.std.proofs.Common.{List, ◌++◌, ap}
use Rattle.redo_facts.specs.Facts.{RecipeCommand}
use Rattle.redo_page.specs.Recipe.{commands_parts, directory_parts, recipe_parts}
use Rattle.redo_page.proofs.PartLoops.{wrote_as}
use Rattle.redo_page.proofs.WriterLemmas.{wrote_then}
use Rattle.redo_page.proofs.recipe.write_known.Goals as goal

pub returns : goal.returns
unfolding recipe_parts
returns g c =
    wrote_as g.W.Sink.written c.args.page.now c.write_commands.new.page _ _
    (ap (λ (commands : List RecipeCommand). directory_parts c.args.recipe.now.directory ++ commands_parts commands) c.commands.ensures)
    (wrote_then c.write_directory.ensures c.write_commands.ensures)
