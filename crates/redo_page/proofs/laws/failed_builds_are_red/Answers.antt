use Rattle.std.proofs.Common.{map}
use Rattle.std.specs.List.{list_any}
use Rattle.redo_outline.specs.Outline.{outline_of}
use Rattle.redo_page.specs.Tree.{has_failed}
use Rattle.redo_page.specs.Page.{page_events, page_outline, page_parts, page_view, run_times, top_parts}
use Rattle.redo_page.specs.Verdict.{is_unfinished, verdict_of}
use Rattle.redo_page.proofs.RedLemmas.{page_rest, red_if, red_only, title_is, verdict_is}
use Rattle.redo_page.proofs.laws.failed_builds_are_red.Goals as goal

pub returns-clause-red : goal.returns-clause-red
unfolding page_parts top_parts
returns-clause-red c request logs requested =
    red_if (list_any has_failed (page_outline request logs requested)) (list_any is_unfinished (page_outline request logs requested))
    (page_view request logs requested) (page_rest request logs requested) (verdict_of (page_outline request logs requested))
    (verdict_is (map run_times request.times) (outline_of logs (page_events request logs requested))
    (c.nodes_sum_up_logs_below.ensures logs (page_events request logs requested)))

pub returns-clause-only : goal.returns-clause-only
unfolding page_parts top_parts
returns-clause-only c request logs requested =
    red_only (list_any has_failed (page_outline request logs requested)) (list_any is_unfinished (page_outline request logs requested))
    (page_view request logs requested) (page_rest request logs requested) (verdict_of (page_outline request logs requested))
    (verdict_is (map run_times request.times) (outline_of logs (page_events request logs requested))
    (c.nodes_sum_up_logs_below.ensures logs (page_events request logs requested)))

pub returns-clause-title : goal.returns-clause-title
unfolding page_parts top_parts
returns-clause-title c request logs requested =
    title_is (list_any has_failed (page_outline request logs requested)) (list_any is_unfinished (page_outline request logs requested))
    (page_view request logs requested) (page_rest request logs requested) (verdict_of (page_outline request logs requested))
    (verdict_is (map run_times request.times) (outline_of logs (page_events request logs requested))
    (c.nodes_sum_up_logs_below.ensures logs (page_events request logs requested)))
