use Rattle.redo_html.proofs.PrintableLemmas.{ascii_printable, printable_shown}
use Rattle.redo_html.proofs.laws.printable_names_are_unchanged.Goals as goal

pub returns : goal.returns
returns c = record { shown = printable_shown; ascii = ascii_printable }
