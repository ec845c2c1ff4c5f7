use Rattle.std.proofs.Common.{ap}
use Rattle.redo_page.specs.Recipe.{command_parts}
use Rattle.redo_page.proofs.PartLoops.{wrote_as}
use Rattle.redo_page.proofs.WriterLemmas.{wrote_next}
use Rattle.redo_page.proofs.recipe.write_each.Goals as goal

pub loop-command-preserved : goal.loop-command-preserved
loop-command-preserved g c = wrote_next
    command_parts c.args.commands.now c.loop-command.command-index c.command-item.result c.loop-command-test.true c.loop-command.invariant
    (wrote_as g.W.Sink.written c.loop-command.page c.write_command.new.page _ _ (ap command_parts c.command-item.is)
    c.write_command.ensures)
