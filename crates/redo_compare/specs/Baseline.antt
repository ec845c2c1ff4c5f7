-- An earlier build, and what changed in a target since.
use Rattle.std.specs.Prelude.{ℕ, Bool, List, ◌++◌, Option, Some, filter, is_some, length}
use Rattle.redo_logs.specs.Logs.{Log, targets_of}
use Rattle.redo_options.specs.declared.options.Options.{Options}
use Rattle.redo_view.specs.Expansion.{is_among, shown_events}
use Rattle.redo_outline.specs.declared.node.Node.{Node}
use Rattle.redo_outline.specs.Outline.{outline_of}
use Rattle.redo_compare.specs.LogChanges.{are_new, earlier_number, gone_in_log}
use Rattle.redo_compare.specs.Outcomes.{is_fixed, newly_fails, outcome_in, outcome_of}
use Rattle.redo_compare.specs.declared.outcome.Outcome.{Outcome}

-- The names of which a build has logs.
abbrev pub known_targets : List Log → List (List ℕ) → List (List ℕ)
known_targets logs names = filter (λ (name : List ℕ). is_among name (targets_of logs)) names

-- The targets that the outline of an earlier build shows: the requested ones that it has, and then all of its targets.
abbrev pub baseline_targets : List Log → List (List ℕ) → List (List ℕ)
baseline_targets earlier requested = known_targets earlier (requested ++ targets_of earlier)

-- An earlier build: its logs and its outline.
pub record BaselineValue : Type 0 where
  pub logs : List Log
  pub nodes : List Node

-- The baseline of a build that shows these targets with these options.
abbrev pub baseline_of : List Log → Options → List (List ℕ) → BaselineValue
baseline_of earlier options requested = record {
  logs = earlier;
  nodes = outline_of earlier (shown_events earlier options (baseline_targets earlier requested));
}

-- What changed in a target: whether the baseline has a log of it, for each of its diagnostics whether it is new, how many are gone, and
-- whether the target newly fails or is fixed.
pub record ChangesValue : Type 0 where
  pub was_built : Bool
  pub new : List Bool
  pub gone : ℕ
  pub newly_fails : Bool
  pub is_fixed : Bool

-- What changed in the target of a node since the baseline.
abbrev pub target_changes : BaselineValue → List Log → Node → ChangesValue
target_changes baseline logs node =
    let before : Option Outcome = outcome_in baseline.nodes (earlier_number baseline.logs logs node.number) in
    let now : Option Outcome = Some (outcome_of node) in
    record {
      was_built = is_some (earlier_number baseline.logs logs node.number);
      new = are_new baseline.logs logs node.number;
      gone = length (gone_in_log baseline.logs logs node.number);
      newly_fails = newly_fails before now;
      is_fixed = is_fixed before now;
    }
