use Rattle.std.proofs.Common.{◌≡◌, ℕ, zero, suc, ◌<◌, ◌≤◌, true, List, [], ◌∷◌, None, Some, length, map, refl, ◌∙◌, ap, sym, subst}
use Rattle.std.proofs.lemmas.List.{length-map}
use Rattle.redo_outline.specs.Outline.{outline_of, with_times}
use Rattle.std.specs.Prelude.{nat_eq}
use Rattle.std.specs.Cmp.Lexicographic.{pointwise}
use Rattle.std.specs.List.{IsDistinct, flat_map}
use Rattle.std.proofs.lemmas.Bool.{and_parts}
use Rattle.redo_line.specs.Lines.{with_line_feed}
use Rattle.redo_logs.specs.Logs.{Log}
use Rattle.redo_outline.specs.Contents.{contents_of}
use Rattle.redo_outline.specs.declared.node.Node.{Node}
use Rattle.redo_outline.specs.declared.node.RunTimes.{RunTimes}
use Rattle.redo_outline.specs.Facts.{entries_at, target_status, texts_of}
use Rattle.redo_view.specs.LogLines.{lines_left_after}
use Rattle.redo_page.specs.Article.{printed_by}
use Rattle.redo_page.specs.Laws as laws
use Rattle.redo_page.specs.Laws.{AreBeginnings, budget_of_tree, event_lines, is_moved_at, lines_at, log_text, page_lines, positioned_bytes, positioned_lines}
use Rattle.redo_page.proofs.PartNames.{log_bytes}
use Rattle.redo_page.specs.Page.{Request, options_of, page_contents, page_events, page_outline, run_times}
use Rattle.redo_page.specs.Tree.{articles, is_among, is_short, node_at}
use Rattle.redo_page.specs.Limits.{tree_limits}
use Rattle.redo_trim.specs.declared.limit.Limit.{Limit}
use Rattle.redo_trim.specs.Laws.{head_and_tail}
use Rattle.redo_trim.specs.Trim.{limit_of, trim}
use Rattle.redo_view.specs.Event.{Event}
use Rattle.redo_page.proofs.BudgetLemmas.{page_bytes}
use Rattle.redo_page.proofs.KeptLines.{bytes_small, fitting_limits, limits_fit, lines_left, nodes_small, trimmed_have}
use Rattle.redo_page.proofs.PageIds.{outline_counted}
use Rattle.redo_page.proofs.FailedIds.{articles_below}
use Rattle.redo_page.proofs.ElementParts.{in_article, in_tree}
use Rattle.redo_page.proofs.PageElements.{has_article, has_tree, in_article_of, in_tree_section, log_shows, only_article, only_tree}
use Rattle.redo_page.proofs.TreeItems.{tree_is_streamed}
use Rattle.redo_page.proofs.TreeLines.{tree_text}
use Rattle.redo_page.proofs.FailedLines.{article_begins, article_text}
use Rattle.redo_page.proofs.PagePartLemmas.{page_article}
use Rattle.redo_page.proofs.PageLines.{all_lines, among_below, contents_have_lines, lines_of_position}
use Rattle.redo_page.proofs.laws.lines_are_shown.Goals as goal

pub returns-clause-complete : goal.returns-clause-complete
returns-clause-complete c = λ request logs requested known.
    let events = page_events request logs requested in
    let have = contents_have_lines logs events (c.logs_show_their_lines.ensures logs (options_of request) requested known) in
    all_lines logs 0 None 0 (contents_of events) have
    ∙ ap (flat_map event_lines) (c.events_are_in_contents.ensures logs (options_of request) requested known)

pub returns-clause-tree : goal.returns-clause-tree
returns-clause-tree c = λ request logs requested inside is.
    ap log_bytes (only_tree request logs requested c.positions_are_of_nodes.ensures.times c.positions_are_of_nodes.ensures.memory
    c.bars_lead_to_positions.ensures c.trimmed_events_are_in_tree.ensures.logs inside is)
    ∙ in_tree logs (options_of request) (page_outline request logs requested) (page_contents request logs requested) log_text refl refl
    ∙ ap log_bytes (tree_is_streamed request logs requested)
    ∙ tree_text logs (options_of request) (page_outline request logs requested) (page_contents request logs requested)

-- A node keeps its number.
same_number : (times : List RunTimes) (nodes : List Node) (position : ℕ)
    → (node_at (map (with_times times) nodes) position).number ≡ (node_at nodes position).number
same_number times [] position = refl
same_number times (node ∷ nodes) zero = refl
same_number times (node ∷ nodes) (suc position) = same_number times nodes position

-- An article shows the lines of its log, if these are moved to it.
moved_text : (request : Request) (logs : List Log) (requested : List (List ℕ))
    → lines_left_after logs [] (page_events request logs requested) ≡ Some []
    → (position : ℕ) → is_moved_at (page_outline request logs requested) (Some position) ≡ true
    → log_bytes (page_article request logs requested position) ≡ positioned_bytes (lines_at position (page_lines request logs requested))
moved_text request logs requested shown position moved =
    let events = page_events request logs requested in
    let nodes = page_outline request logs requested in
    let parts = and_parts (is_among (articles nodes) position) (is_short (node_at nodes position)) moved in
    article_text logs nodes request.recipes position parts.1
    ∙ ap (λ (number : ℕ). flat_map with_line_feed (texts_of (entries_at number logs)))
    (same_number (map run_times request.times) (outline_of logs events) position)
    ∙ ap (flat_map with_line_feed) (lines_of_position logs (target_status logs events) (contents_of events) position
    (contents_have_lines logs events shown)
    (subst (λ (n : ℕ). position < n) (length-map (outline_of logs events) (with_times (map run_times request.times)))
    (among_below (length nodes) (articles nodes) position (articles_below nodes) parts.0)))

pub returns-clause-articles : goal.returns-clause-articles
returns-clause-articles c = λ request logs requested known position moved inside is.
    ap log_bytes (only_article request logs requested c.positions_are_of_nodes.ensures.times c.positions_are_of_nodes.ensures.memory
    c.bars_lead_to_positions.ensures c.trimmed_events_are_in_tree.ensures.logs position inside is)
    ∙ in_article logs (page_outline request logs requested) request.recipes position log_text refl refl
    ∙ moved_text request logs requested (c.logs_show_their_lines.ensures logs (options_of request) requested known) position moved

pub returns-clause-excerpts : goal.returns-clause-excerpts
returns-clause-excerpts c = λ request logs requested position inside is.
    let nodes = page_outline request logs requested in
    subst (λ (bytes : List ℕ). AreBeginnings bytes (map with_line_feed (printed_by logs (node_at nodes position))))
    (sym (ap log_bytes (only_article request logs requested c.positions_are_of_nodes.ensures.times
    c.positions_are_of_nodes.ensures.memory c.bars_lead_to_positions.ensures c.trimmed_events_are_in_tree.ensures.logs position inside is)
    ∙ in_article logs nodes request.recipes position log_text refl refl))
    (article_begins logs nodes request.recipes position)

pub returns-clause-inside : goal.returns-clause-inside
returns-clause-inside c = λ request logs requested.
    log_shows request logs requested c.positions_are_of_nodes.ensures.times c.positions_are_of_nodes.ensures.memory
    c.bars_lead_to_positions.ensures c.trimmed_events_are_in_tree.ensures.logs

pub returns-clause-bounded : goal.returns-clause-bounded
returns-clause-bounded c = λ request logs requested some small few known inside is.
    let events = page_events request logs requested in
    let nodes = page_outline request logs requested in
    let options = options_of request in
    let limits = tree_limits logs nodes request.max_bytes in
    let left = c.logs_show_their_lines.ensures logs options requested known in
    let fit = limits_fit logs options nodes request.max_bytes small
    (bytes_small (map run_times request.times) (outline_of logs events)
    (nodes_small logs (target_status logs events) None 0 (contents_of events))) in
    subst (λ (bytes : List ℕ). length bytes ≤ budget_of_tree request logs requested)
    (sym (ap log_bytes (only_tree request logs requested c.positions_are_of_nodes.ensures.times c.positions_are_of_nodes.ensures.memory
    c.bars_lead_to_positions.ensures c.trimmed_events_are_in_tree.ensures.logs inside is)
    ∙ in_tree logs options nodes (page_contents request logs requested) log_text refl refl))
    (page_bytes c.head_and_tail_are_kept.ensures.bounded request logs requested some few left
    (subst (IsDistinct (pointwise nat_eq)) (sym (c.each_log_once.ensures.events logs options requested known))
    (c.each_log_once.ensures.no_duplicates logs options requested))
    (c.events_are_in_contents.ensures logs options requested known)
    (trimmed_have logs limits (c.head_and_tail_are_kept.ensures.kept limits) fit [] (contents_of events)
    (contents_have_lines logs events left))
    (c.trimmed_events_are_in_tree.ensures.logs limits (contents_of events)))

pub returns-clause-has_tree : goal.returns-clause-has_tree
returns-clause-has_tree c = λ request logs requested. (in_tree_section request logs requested, has_tree request logs requested)

pub returns-clause-has_articles : goal.returns-clause-has_articles
returns-clause-has_articles c = λ request logs requested position moved.
    let parts = and_parts (is_among (articles (page_outline request logs requested)) position)
    (is_short (node_at (page_outline request logs requested) position)) moved in
    (in_article_of request logs requested position, has_article request logs requested position parts.0)

-- Nothing is left out without limits.
unlimited : (logs : List Log) (events : List Event) (limits : List Limit) → limits ≡ []
    → trim [] [] (contents_of events) ≡ contents_of events
    → positioned_lines None 0 (trim limits [] (contents_of events)) ≡ positioned_lines None 0 (contents_of events)
unlimited logs events limits none same =
    ap (λ (l : List Limit). positioned_lines None 0 (trim l [] (contents_of events))) none ∙ ap (positioned_lines None 0) same

pub returns-clause-whole : goal.returns-clause-whole
returns-clause-whole c = λ request logs requested no_limit known.
    let events = page_events request logs requested in
    let nodes = page_outline request logs requested in
    let same = c.events_are_in_contents.ensures logs (options_of request) requested known in
    unlimited logs events (tree_limits logs nodes request.max_bytes)
    (ap (tree_limits logs nodes) no_limit)
    (sym (c.trimmed_events_are_in_tree.ensures.tree [] events same) ∙ ap contents_of (c.unlimited_logs_are_whole.ensures [] events tt))

pub returns-clause-fitting : goal.returns-clause-fitting
returns-clause-fitting c = λ request logs requested fit known.
    let events = page_events request logs requested in
    let nodes = page_outline request logs requested in
    let same = c.events_are_in_contents.ensures logs (options_of request) requested known in
    unlimited logs events (tree_limits logs nodes request.max_bytes)
    (fitting_limits logs (options_of request) nodes request.max_bytes fit)
    (sym (c.trimmed_events_are_in_tree.ensures.tree [] events same) ∙ ap contents_of (c.unlimited_logs_are_whole.ensures [] events tt))

pub returns-clause-cut : goal.returns-clause-cut
returns-clause-cut c = λ request logs requested small known position below.
    let events = page_events request logs requested in
    let nodes = page_outline request logs requested in
    let options = options_of request in
    let status = target_status logs events in
    let limits = tree_limits logs nodes request.max_bytes in
    let have = contents_have_lines logs events (c.logs_show_their_lines.ensures logs options requested known) in
    let fit = limits_fit logs options nodes request.max_bytes small
    (bytes_small (map run_times request.times) (outline_of logs events) (nodes_small logs status None 0 (contents_of events))) in
    lines_left logs limits (c.head_and_tail_are_kept.ensures.kept limits) fit status (contents_of events) have
    (c.trimmed_events_are_in_tree.ensures.logs limits (contents_of events)) position
    (subst (λ (n : ℕ). position < n) (outline_counted request logs requested) below)
    ∙ ap (λ (number : ℕ). head_and_tail (limit_of limits number) (laws.texts_of (lines_at position (page_lines request logs requested))))
    (sym (same_number (map run_times request.times) (outline_of logs events) position))
