use Rattle.redo_diagnostics.proofs.SequenceLaws.{without_colour, without_link}
use Rattle.redo_diagnostics.proofs.laws.colours_and_links_say_nothing.Goals as goal

pub returns-clause-colours : goal.returns-clause-colours
returns-clause-colours c = without_colour

pub returns-clause-links : goal.returns-clause-links
returns-clause-links c = without_link
