use Rattle.std.proofs.Common.{ℕ, ◌-◌, List, ◌++◌, ◌∙◌, ap, length}
use Rattle.std.specs.List.{flat_map}
use Rattle.redo_facts.specs.Facts.{RecipeCommand}
use Rattle.redo_page.specs.Recipe.{command_parts, commands_parts, earlier_parts}
use Rattle.redo_page.proofs.PartLoops.{wrote_as}
use Rattle.redo_page.proofs.WriterLemmas.{wrote_then}
use Rattle.redo_page.proofs.recipe.write_commands.Goals as goal

pub returns : goal.returns
unfolding commands_parts
returns g c =
    wrote_as g.W.Sink.written c.args.page.now c.write_each.new.page _ _
    (ap (λ (count : ℕ). earlier_parts count ++ flat_map command_parts c.last_commands.result.now) c.earlier_count.ensures
    ∙ ap (λ (last : List RecipeCommand). earlier_parts (length c.args.commands.now - 10) ++ flat_map command_parts last)
    c.last_commands.ensures)
    (wrote_then c.write_earlier.ensures c.write_each.ensures)
