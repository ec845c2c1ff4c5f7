-- What parts have, in order, and lines: names that proofs use.
use Rattle.std.proofs.Common.{ℕ, List}
use Rattle.std.specs.List.{filter, flat_map}
use Rattle.std.specs.Prelude.{not}
use Rattle.redo_html.specs.declared.markup.Markup.{Markup}
use Rattle.redo_html.specs.Chart.{Drawing}
use Rattle.redo_html.specs.Parts.{Part}
use Rattle.redo_logs.specs.Logs.{Log}
use Rattle.redo_page.specs.Laws.{PositionedLine, article_id, article_link, log_text, markup_of, part_chart, section_id, section_link, target_id, target_link}
use Rattle.redo_page.specs.Page.{Request, options_of, page_outline}
use Rattle.redo_page.specs.Tree.{Build, articles, is_moved_if}

abbrev pub target_ids : List Part → List ℕ
target_ids parts = flat_map target_id parts

abbrev pub target_links : List Part → List ℕ
target_links parts = flat_map target_link parts

abbrev pub article_ids : List Part → List ℕ
article_ids parts = flat_map article_id parts

abbrev pub article_links : List Part → List ℕ
article_links parts = flat_map article_link parts

abbrev pub section_ids : List Part → List (List ℕ)
section_ids parts = flat_map section_id parts

abbrev pub section_links : List Part → List (List ℕ)
section_links parts = flat_map section_link parts

abbrev pub charts : List Part → List Drawing
charts parts = flat_map part_chart parts

abbrev pub log_bytes : List Part → List ℕ
log_bytes parts = flat_map log_text parts

abbrev pub markups : List Part → List Markup
markups parts = flat_map markup_of parts

-- The lines of the logs whose output isn't in an article of this build.
abbrev pub unmoved : Build → List PositionedLine → List PositionedLine
unmoved build lines = filter (λ (positioned : PositionedLine). not (is_moved_if build positioned.position)) lines

-- The build that the tree of a page shows.
abbrev pub page_build : Request → List Log → List (List ℕ) → Build
page_build request logs requested = record {
  logs = logs;
  options = options_of request;
  nodes = page_outline request logs requested;
  articles = articles (page_outline request logs requested);
}
