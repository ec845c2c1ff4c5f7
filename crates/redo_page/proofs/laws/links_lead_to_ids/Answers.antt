use Rattle.std.proofs.Common.{List, refl, sym, ◌∙◌, ap, subst}
use Rattle.std.specs.Prelude.{◌==◌, nat_eq}
use Rattle.std.specs.List.{IsDistinct, list_all}
use Rattle.redo_html.specs.Parts.{Part}
use Rattle.redo_page.specs.Laws.{target_link}
use Rattle.redo_page.proofs.PartNames.{target_links}
use Rattle.redo_page.specs.Page.{page_outline}
use Rattle.redo_page.proofs.FailedOrder.{articles_distinct}
use Rattle.redo_page.proofs.ElementParts.{in_article}
use Rattle.redo_page.proofs.PageElements.{only_article}
use Rattle.redo_page.proofs.OwnLinks.{article_links_are_own}
use Rattle.redo_page.proofs.PageIds.{page_target_ids, page_article_ids, page_target_links, page_article_links, page_section_links}
use Rattle.redo_page.proofs.laws.links_lead_to_ids.Goals as goal

pub returns-clause-targets : goal.returns-clause-targets
returns-clause-targets c = page_target_ids c.positions_are_of_nodes.ensures.times
    c.positions_are_of_nodes.ensures.memory c.bars_lead_to_positions.ensures c.trimmed_events_are_in_tree.ensures.logs

pub returns-clause-articles : goal.returns-clause-articles
returns-clause-articles c = page_article_ids c.positions_are_of_nodes.ensures.times
    c.positions_are_of_nodes.ensures.memory c.bars_lead_to_positions.ensures c.trimmed_events_are_in_tree.ensures.logs

pub returns-clause-articles_once : goal.returns-clause-articles_once
returns-clause-articles_once c = λ request logs requested.
    subst (IsDistinct nat_eq) (sym (page_article_ids c.positions_are_of_nodes.ensures.times
    c.positions_are_of_nodes.ensures.memory c.bars_lead_to_positions.ensures c.trimmed_events_are_in_tree.ensures.logs request logs
    requested))
    (articles_distinct (page_outline request logs requested))

pub returns-clause-target_links : goal.returns-clause-target_links
returns-clause-target_links c = page_target_links c.positions_are_of_nodes.ensures.times
    c.positions_are_of_nodes.ensures.memory c.bars_lead_to_positions.ensures c.trimmed_events_are_in_tree.ensures.logs

pub returns-clause-own_links : goal.returns-clause-own_links
returns-clause-own_links c = λ request logs requested position inside is.
    let nodes = page_outline request logs requested in
    ap (λ (parts : List Part). list_all (λ number. number == position) (target_links parts))
    (only_article request logs requested c.positions_are_of_nodes.ensures.times c.positions_are_of_nodes.ensures.memory
    c.bars_lead_to_positions.ensures c.trimmed_events_are_in_tree.ensures.logs position inside is)
    ∙ ap (list_all (λ number. number == position)) (in_article logs nodes request.recipes position target_link refl refl)
    ∙ article_links_are_own logs nodes request.recipes position

pub returns-clause-article_links : goal.returns-clause-article_links
returns-clause-article_links c = page_article_links c.positions_are_of_nodes.ensures.times
    c.positions_are_of_nodes.ensures.memory c.bars_lead_to_positions.ensures c.trimmed_events_are_in_tree.ensures.logs

pub returns-clause-section_links : goal.returns-clause-section_links
returns-clause-section_links c = page_section_links c.positions_are_of_nodes.ensures.times
    c.positions_are_of_nodes.ensures.memory c.bars_lead_to_positions.ensures c.trimmed_events_are_in_tree.ensures.logs
