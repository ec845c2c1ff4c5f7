use Rattle.std.proofs.Common.{map}
use Rattle.redo_outline.specs.Outline.{outline_of}
use Rattle.redo_page.specs.Page.{page_events, run_times}
use Rattle.redo_page.proofs.FailedOrder.{are_in_order, are_listed}
use Rattle.redo_page.proofs.FoundLemmas.{contain_roots}
use Rattle.redo_page.proofs.PagePartLemmas.{page_lists_failures}
use Rattle.redo_page.proofs.laws.failures_are_listed.Goals as goal

pub returns-clause-listed : goal.returns-clause-listed
returns-clause-listed c = are_listed

pub returns-clause-in_order : goal.returns-clause-in_order
returns-clause-in_order c = are_in_order

pub returns-clause-found : goal.returns-clause-found
returns-clause-found c request logs requested =
    contain_roots (map run_times request.times) (outline_of logs (page_events request logs requested))
    (c.nodes_sum_up_logs_below.ensures logs (page_events request logs requested))

pub returns-clause-named : goal.returns-clause-named
returns-clause-named c = page_lists_failures
