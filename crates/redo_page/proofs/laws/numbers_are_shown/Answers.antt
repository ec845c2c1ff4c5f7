use Rattle.redo_page.specs.Laws.{page_processor, page_targets}
use Rattle.redo_page.specs.Page.{page_outline}
use Rattle.redo_summary.specs.Window.{known_times}
use Rattle.redo_page.proofs.PageIds.{page_headings}
use Rattle.redo_page.proofs.PageNumbers.{page_has_end, page_has_heading, page_has_summary, page_has_took}
use Rattle.redo_page.proofs.ReadLemmas.{end_are, heading_are, part_read, summary_are, took_are}
use Rattle.redo_page.proofs.laws.numbers_are_shown.Goals as goal

pub returns-clause-heading : goal.returns-clause-heading
returns-clause-heading c = λ request logs requested.
    part_read request logs requested (c.page_is_read.ensures.parts request logs requested) _
    (heading_are (page_outline request logs requested))
    (page_has_heading request logs requested)

pub returns-clause-summary : goal.returns-clause-summary
returns-clause-summary c = λ request logs requested.
    part_read request logs requested (c.page_is_read.ensures.parts request logs requested) _
    (summary_are (page_outline request logs requested) (page_targets request logs requested) (page_processor request logs requested))
    (page_has_summary request logs requested)

pub returns-clause-took : goal.returns-clause-took
returns-clause-took c = λ request logs requested.
    part_read request logs requested (c.page_is_read.ensures.parts request logs requested) _
    (took_are (known_times (page_targets request logs requested)))
    (page_has_took request logs requested)

pub returns-clause-command : goal.returns-clause-command
returns-clause-command c = λ request logs requested.
    part_read request logs requested (c.page_is_read.ensures.parts request logs requested) _
    (end_are request requested (page_outline request logs requested))
    (page_has_end request logs requested)

pub returns-clause-once : goal.returns-clause-once
returns-clause-once c = page_headings c.positions_are_of_nodes.ensures.times
    c.positions_are_of_nodes.ensures.memory c.bars_lead_to_positions.ensures c.trimmed_events_are_in_tree.ensures.logs
