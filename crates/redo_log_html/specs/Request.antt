-- The parameters of the page of a job.
use Rattle.std.specs.Prelude.{ℕ, List, [], Option, None, Some, option_map}
use Rattle.redo_compare.specs.Baseline.{BaselineValue, baseline_of}
use Rattle.redo_facts.specs.Facts.{RecipeFacts}
use Rattle.redo_args.specs.HtmlJob.{PageParts}
use Rattle.redo_logs.specs.Logs.{Log}
use Rattle.redo_page.specs.Page.{Request, page_options}
use Rattle.redo_times.specs.declared.times.Times.{Times}

-- The title of a page: none if it isn't given.
abbrev pub title_for : Option (List ℕ) → List ℕ
title_for None = []
title_for (Some title) = title

-- The parameters of the page of a job, if these are the times of all targets, the facts of their recipes, and the baseline.
abbrev pub request_for : PageParts → List Times → List RecipeFacts → Option BaselineValue → Request
request_for job times recipes baseline = record {
  title = title_for job.title;
  dir = job.dir;
  unchanged = job.unchanged;
  debug_locks = job.debug_locks;
  max_bytes = job.max_bytes;
  times = times;
  recipes = recipes;
  baseline = baseline;
}

-- The baseline with which a job compares a build with these requested targets, from the logs of an earlier build, if it has them.
abbrev pub baseline_for : PageParts → Option (List Log) → List (List ℕ) → Option BaselineValue
baseline_for job earlier requested =
    option_map (λ (logs : List Log). baseline_of logs (page_options job.unchanged job.debug_locks) requested) earlier
