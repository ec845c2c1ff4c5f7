-- What is new since a baseline, and the section that says so: the template `NEWS` in src/news.rt.
use Rattle.std.specs.Prelude.{ℕ, suc, true, false, List, [], ◌∷◌, ◌++◌, Option, None, Some, filter, length, map}
use Rattle.redo_compare.specs.Baseline.{BaselineValue}
use Rattle.redo_compare.specs.declared.outcome.Outcome.{Outcome}
use Rattle.redo_compare.specs.LogChanges.{diagnostics_in, earlier_number, gone_in_log, is_new}
use Rattle.redo_compare.specs.Occurrences.{OccurrenceValue}
use Rattle.redo_compare.specs.Outcomes.{is_fixed, newly_fails, outcome_in, outcome_of}
use Rattle.redo_html.specs.Parts.{Part}
use Rattle.redo_logs.specs.Logs.{Log}
use Rattle.redo_outline.specs.declared.node.Node.{Node}
use Rattle.redo_page.specs.declared.news.TheConstants.{NEWS}
use Rattle.redo_page.specs.Tree.{positions_where}
use Rattle.redo_page.specs.News.{NewsValue}
use Rattle.redo_page.specs.Scope.{View}
use Rattle.redo_page.specs.Template.{template_parts}
use Rattle.redo_summary.specs.declared.rank.Rank.{Rank}
use Rattle.redo_summary.specs.Summary.{total}

-- The line of a diagnostic of the target at a position.
abbrev pub line_rank : ℕ → OccurrenceValue → Rank
line_rank position one = record { value = one.line; position = position }

module _ (baseline : BaselineValue) (logs : List Log) where
  -- The new warnings and errors of a target.
  abbrev pub new_in : Node → List OccurrenceValue
  new_in node = filter (is_new baseline.logs logs node.number) (diagnostics_in logs node.number)

  -- Their lines, for each of these targets. The first one has the position `position`.
  abbrev pub new_lines : ℕ → List Node → List Rank
  new_lines position [] = []
  new_lines position (node ∷ nodes) = map (line_rank position) (new_in node) ++ new_lines (suc position) nodes

  -- The number of warnings and errors that are gone.
  abbrev pub gone_count : List Node → ℕ
  gone_count nodes = total (λ (node : Node). length (gone_in_log baseline.logs logs node.number)) nodes

  -- How a target ended in the baseline, if it has a log there.
  abbrev pub earlier_outcome : Node → Option Outcome
  earlier_outcome node = outcome_in baseline.nodes (earlier_number baseline.logs logs node.number)

  -- The positions of the targets that newly fail, and of the fixed ones.
  abbrev pub newly_failing : List Node → List ℕ
  newly_failing nodes = positions_where (λ (node : Node). newly_fails (earlier_outcome node) (Some (outcome_of node))) 0 nodes

  abbrev pub fixed_since : List Node → List ℕ
  fixed_since nodes = positions_where (λ (node : Node). is_fixed (earlier_outcome node) (Some (outcome_of node))) 0 nodes

  abbrev pub news_since : List Node → NewsValue
  news_since nodes = record {
    is_compared = true;
    lines = new_lines 0 nodes;
    gone = gone_count nodes;
    failing = newly_failing nodes;
    fixed = fixed_since nodes;
  }

abbrev pub no_news : NewsValue
no_news = record { is_compared = false; lines = []; gone = 0; failing = []; fixed = [] }

-- What is new in a build with these logs and targets.
abbrev pub news_of : Option BaselineValue → List Log → List Node → NewsValue
news_of None logs nodes = no_news
news_of (Some baseline) logs nodes = news_since baseline logs nodes

-- Without a baseline, there is no such section.
unfoldable pub news_parts : View → List Part
news_parts view = template_parts NEWS view
