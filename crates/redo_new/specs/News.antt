-- What is new in a build since a baseline, as a text for people: a fact in each line.
use Rattle.std.specs.Prelude.{ℕ, Bool, true, false, ℤ, List, [], ◌++◌, Option, None, Some, codes, filter, is_some, map}
use Rattle.std.specs.Fmt.{signed_decimal}
use Rattle.std.specs.List.{flat_map}
use Rattle.redo_diagnostics.specs.Diagnostic.{diagnostic_of}
use Rattle.redo_line.specs.Lines.{with_line_feed}
use Rattle.redo_logs.specs.Logs.{Log}
use Rattle.redo_options.specs.declared.options.Options.{Options}
use Rattle.redo_view.specs.Expansion.{shown_events}
use Rattle.redo_outline.specs.Facts.{entries_at, target_at, texts_of}
use Rattle.redo_outline.specs.Outline.{outline_of}
use Rattle.redo_outline.specs.declared.node.Node.{Node}
use Rattle.redo_compare.specs.Baseline.{BaselineValue, baseline_of, target_changes}
use Rattle.redo_compare.specs.LogChanges.{are_new}
use Rattle.redo_compare.specs.Rounds.{picked}

-- ---- the lines

-- ` (exit N)`, if the status is known.
abbrev pub exit_text : Option ℤ → List ℕ
exit_text None = []
exit_text (Some status) = codes " (exit " ++ signed_decimal status ++ codes ")"

abbrev pub failing_line : List ℕ → Option ℤ → List ℕ
failing_line target status = codes "newly failing: " ++ target ++ exit_text status

abbrev pub new_line : List ℕ → List ℕ → List ℕ
new_line target line = codes "new: " ++ target ++ codes ": " ++ line

abbrev pub fixed_line : List ℕ → List ℕ
fixed_line target = codes "fixed: " ++ target

-- ---- what is new in a log

-- The lines of log `number` that are diagnostics.
abbrev pub diagnostic_lines : List Log → ℕ → List (List ℕ)
diagnostic_lines logs number = filter (λ (line : List ℕ). is_some (diagnostic_of line)) (texts_of (entries_at number logs))

-- The lines of log `number` whose diagnostics are new since the earlier build.
abbrev pub new_lines : List Log → List Log → ℕ → List (List ℕ)
new_lines earlier logs number = picked (are_new earlier logs number) (diagnostic_lines logs number)

-- ---- what is new in a build

module _ (baseline : BaselineValue) (logs : List Log) where
  abbrev pub newly_fails : Node → Bool
  newly_fails node = (target_changes baseline logs node).newly_fails

  abbrev pub is_fixed : Node → Bool
  is_fixed node = (target_changes baseline logs node).is_fixed

  -- The targets that newly fail, the new diagnostics, and the fixed targets, each in the order of these nodes.
  abbrev pub news_of : List Node → List (List ℕ)
  news_of nodes =
      map (λ (node : Node). failing_line (target_at logs node.number) node.status) (filter newly_fails nodes)
      ++ (flat_map (λ (node : Node). map (new_line (target_at logs node.number)) (new_lines baseline.logs logs node.number)) nodes
      ++ map (λ (node : Node). fixed_line (target_at logs node.number)) (filter is_fixed nodes))

-- The logs of mentioned targets are opened too.
abbrev pub options_of : Bool → Options
options_of unchanged = record { recursive = true; unchanged = unchanged; details = true; debug_locks = false; debug_pids = false }

module _ (unchanged : Bool) (earlier logs : List Log) (requested : List (List ℕ)) where
  -- The nodes of the logs that are opened for the requested targets. `unchanged` says whether targets that needed no rebuild are included.
  abbrev pub shown_nodes : List Node
  shown_nodes = outline_of logs (shown_events logs (options_of unchanged) requested)

  -- What is new in the logs that are opened for the requested targets since the earlier build.
  abbrev pub build_news : List (List ℕ)
  build_news = news_of (baseline_of earlier (options_of unchanged) requested) logs shown_nodes

  -- The same as a text, in which each fact is a line.
  abbrev pub news_text : List ℕ
  news_text = flat_map with_line_feed build_news
