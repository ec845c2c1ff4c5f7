use Rattle.redo_html.proofs.PassageLemmas.{plain_shown}
use Rattle.redo_html.proofs.VerbatimLemmas.{plain_written}
use Rattle.redo_html.proofs.laws.plain_text_is_unchanged.Goals as goal

pub returns : goal.returns
returns c = record { shown = plain_shown; written = plain_written }
