use Rattle.std.proofs.Common.{ap}
use Rattle.std.specs.Prelude.{is_some}
use Rattle.redo_page.specs.Page.{page_outline}
use Rattle.redo_page.proofs.NewsLemmas.{are_new_lines}
use Rattle.redo_page.proofs.NewsParts.{compared, page_has_more, page_has_numbers, page_lists_news}
use Rattle.redo_page.proofs.PageIds.{new_section}
use Rattle.redo_page.proofs.ReadLemmas.{news_are, part_read}
use Rattle.redo_page.proofs.laws.news_are_shown.Goals as goal

pub returns-clause-numbers : goal.returns-clause-numbers
returns-clause-numbers c = λ request logs requested baseline is.
    part_read request logs requested (c.page_is_read.ensures.parts request logs requested) _
    (news_are baseline logs (page_outline request logs requested))
    (page_has_numbers request logs requested (ap is_some is) baseline is)

pub returns-clause-listed : goal.returns-clause-listed
returns-clause-listed c = λ request logs requested baseline is.
    page_lists_news request logs requested (ap is_some is) baseline is

pub returns-clause-lines : goal.returns-clause-lines
returns-clause-lines c = are_new_lines

pub returns-clause-otherwise : goal.returns-clause-otherwise
returns-clause-otherwise c = λ request logs requested some.
    page_has_more request logs requested some
    (new_section c.positions_are_of_nodes.ensures.times c.positions_are_of_nodes.ensures.memory c.bars_lead_to_positions.ensures
    c.trimmed_events_are_in_tree.ensures.logs request logs requested (compared request logs requested some))
