use Rattle.std.proofs.Common.{take}
use Rattle.std.specs.List.{flat_map}
use Rattle.redo_page.specs.Private.Writing.{WroteParts}
use Rattle.redo_page.specs.Recipe.{command_parts}
use Rattle.redo_page.proofs.recipe.write_each.Given as goal

abbrev pub invariant-loop-command : goal.invariant-loop-command
invariant-loop-command g l = WroteParts g.W.Sink.written l.initial.page l.page (flat_map command_parts (take l.command-index l.commands))
