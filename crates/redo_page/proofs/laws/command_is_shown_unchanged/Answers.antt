use Rattle.redo_page.proofs.CommandLemmas.{command_shown}
use Rattle.redo_page.proofs.laws.command_is_shown_unchanged.Goals as goal

pub returns : goal.returns
returns c = command_shown c.printable_names_are_unchanged.ensures.shown c.printable_names_are_unchanged.ensures.ascii
