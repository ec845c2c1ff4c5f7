-- The page of a build.
use Rattle.std.specs.Prelude.{ℕ, Bool, true, false, List, [], ◌++◌, Option, map}
use Rattle.std.specs.List.{flat_map}
use Rattle.std.specs.Option.{option_copied}
use Rattle.redo_compare.specs.Baseline.{BaselineValue}
use Rattle.redo_facts.specs.Facts.{RecipeFacts}
use Rattle.redo_logs.specs.Logs.{Log}
use Rattle.redo_options.specs.declared.options.Options.{Options}
use Rattle.redo_view.specs.Event.{Event}
use Rattle.redo_view.specs.Expansion.{shown_events}
use Rattle.redo_html.specs.Parts.{Part, part_html}
use Rattle.redo_outline.specs.declared.node.Node.{Node}
use Rattle.redo_outline.specs.declared.node.RunTimes.{RunTimes}
use Rattle.redo_outline.specs.Contents.{Contents, contents_of}
use Rattle.redo_outline.specs.Outline.{outline_of, with_times}
use Rattle.redo_page.specs.Failed.{failed_parts, is_dependent_failure, is_unclosed}
use Rattle.redo_page.specs.Command.{command}
use Rattle.redo_page.specs.Frame.{head_parts, header_parts, footer_parts}
use Rattle.redo_page.specs.Verdict.{title_text, verdict_of, verdict_text}
use Rattle.redo_page.specs.declared.page.PageRequest.{PageRequest}
use Rattle.redo_page.specs.Limits.{tree_limits}
use Rattle.redo_page.specs.NewSection.{news_of, news_parts}
use Rattle.redo_page.specs.News.{NewsValue}
use Rattle.redo_page.specs.Scope.{View}
use Rattle.redo_page.specs.Summary.{summary_parts}
use Rattle.redo_page.specs.Timeline.{timeline_parts}
use Rattle.redo_page.specs.Tree.{no_node, root_failures, tree_parts, positions_where}
use Rattle.redo_trim.specs.Trim.{trim}
use Rattle.redo_summary.specs.Summary.{Facts, summary_of}
use Rattle.redo_summary.specs.Targets.{time_between}
use Rattle.redo_summary.specs.Usage.{usage_of}
use Rattle.redo_times.specs.declared.times.Times.{Times}

-- The parameters of a page: a title, or none if it is empty; the capture directory as it was given; whether unchanged targets are shown,
-- and what was done about locks; how many bytes of text lines are shown, or 0 for all; the times of targets and what is known of their
-- recipes, by the numbers of their logs; and an earlier build, if the page says what is new since then.
pub record Request : Type 0 where
  pub title : List ℕ
  pub dir : List ℕ
  pub unchanged : Bool
  pub debug_locks : Bool
  pub max_bytes : ℕ
  pub times : List Times
  pub recipes : List RecipeFacts
  pub baseline : Option BaselineValue

abbrev pub request_of : PageRequest → Request
request_of request = record {
  title = request.title.now;
  dir = request.dir.now;
  unchanged = request.unchanged;
  debug_locks = request.debug_locks;
  max_bytes = request.max_bytes;
  times = request.times.now;
  recipes = request.recipes.now;
  baseline = option_copied request.baseline;
}

-- A page shows the logs of mentioned targets too, and all text lines.
abbrev pub page_options : Bool → Bool → Options
page_options unchanged debug_locks = record { recursive = true; unchanged = unchanged; details = true; debug_locks = debug_locks; debug_pids = false }

abbrev pub options_of : Request → Options
options_of request = page_options request.unchanged request.debug_locks

-- The head of the page, its header, what failed, what is new, and the summary.
unfoldable pub top_parts : View → List Part
top_parts view = head_parts view ++ (header_parts view ++ (failed_parts view ++ (news_parts view ++ summary_parts view)))

abbrev pub heading_of : List Node → List ℕ
heading_of nodes = verdict_text (verdict_of nodes) nodes

-- The view of a build for the templates, with the title and the directory of its page, and its command.
abbrev pub build_view : List ℕ → List ℕ → List ℕ → List RecipeFacts → List Log → List Node → Facts → NewsValue → View
build_view title dir command recipes logs nodes facts news = record {
  title = title;
  dir = dir;
  verdict = verdict_of nodes;
  heading = heading_of nodes;
  tab = title_text title (verdict_of nodes) (heading_of nodes);
  command = command;
  logs = logs;
  nodes = nodes;
  recipes = recipes;
  facts = facts;
  usage = usage_of nodes recipes facts.recipes;
  roots = root_failures nodes;
  dependents = positions_where is_dependent_failure 0 nodes;
  unclosed = positions_where is_unclosed 0 nodes;
  news = news;
  rank = record { value = 0; position = 0 };
  largest = 0;
  node = no_node;
}

-- How long a target took, and when it ended.
abbrev pub run_times : Times → RunTimes
run_times times = record { took = time_between times.began times.ended; ended = times.ended }

-- The contents of the tree, without the middle of long logs. They have about `budget` bytes of text lines.
abbrev pub tree_contents : List Log → Options → ℕ → List (List ℕ) → List Node → Contents
tree_contents logs options budget requested nodes = trim (tree_limits logs nodes budget) [] (contents_of (shown_events logs options requested))

-- The timeline and the tree.
abbrev pub body_parts : View → Options → ℕ → List (List ℕ) → List Part
body_parts view options budget requested =
    timeline_parts view ++ tree_parts view.logs options view.nodes (tree_contents view.logs options budget requested view.nodes)

module _ (request : Request) (logs : List Log) (requested : List (List ℕ)) where
  abbrev pub page_events : List Event
  page_events = shown_events logs (options_of request) requested

  abbrev pub page_outline : List Node
  page_outline = map (with_times (map run_times request.times)) (outline_of logs page_events)

  -- The facts about the times of the shown targets.
  abbrev pub page_facts : Facts
  page_facts = summary_of page_outline request.times

  -- What is new since the baseline.
  abbrev pub page_news : NewsValue
  page_news = news_of request.baseline logs page_outline

  -- The contents of the tree.
  abbrev pub page_contents : Contents
  page_contents = tree_contents logs (options_of request) request.max_bytes requested page_outline

  abbrev pub page_view : View
  page_view = build_view request.title request.dir (command request.dir (options_of request) requested) request.recipes logs page_outline page_facts page_news

  -- The parts of the page.
  unfoldable pub page_parts : List Part
  page_parts = top_parts page_view ++ (body_parts page_view (options_of request) request.max_bytes requested ++ footer_parts page_view)

  -- The bytes of the page.
  abbrev pub page_html : List ℕ
  page_html = flat_map part_html page_parts
