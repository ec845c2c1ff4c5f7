use Rattle.redo_html.proofs.LinkLemmas.{link_shown, link_written, link_style}
use Rattle.redo_html.proofs.laws.links_show_nothing.Goals as goal

pub returns : goal.returns
returns c = record { shown = link_shown; written = link_written; style = link_style }
