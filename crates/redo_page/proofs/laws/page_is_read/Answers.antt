use Rattle.redo_page.specs.Page.{page_parts}
use Rattle.redo_page.proofs.PartLemmas.{parts_alone, parts_text}
use Rattle.redo_page.proofs.laws.page_is_read.Goals as goal

pub returns-clause-parts : goal.returns-clause-parts
returns-clause-parts c = λ request logs requested.
    parts_alone (page_parts request logs requested) (c.parts_are_read.ensures (page_parts request logs requested))

pub returns-clause-text : goal.returns-clause-text
returns-clause-text c = λ request logs requested.
    parts_text (page_parts request logs requested) (c.parts_are_read.ensures (page_parts request logs requested))
    (c.parts_show_their_text.ensures (page_parts request logs requested))
