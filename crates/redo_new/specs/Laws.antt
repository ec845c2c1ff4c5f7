-- Definitions that state the laws about what is new.
use Rattle.std.specs.Prelude.{◌≡◌, ℕ, ◌||◌, nat_eq, Bool, true, false, List, [], ◌∷◌, Some, filter, get_or}
use Rattle.std.specs.List.{AllByRecursion, starts_with}
use Rattle.redo_logs.specs.Logs.{Log}
use Rattle.redo_outline.specs.Facts.{entries_at, texts_of}
use Rattle.redo_outline.specs.declared.node.Node.{Node}
use Rattle.redo_compare.specs.Baseline.{BaselineValue}
use Rattle.redo_compare.specs.LogChanges.{earlier_number, new_in_log}
use Rattle.redo_compare.specs.Occurrences.{OccurrenceValue}
use Rattle.redo_compare.specs.Outcomes.{outcome_in, outcome_of}
use Rattle.redo_new.specs.News.{newly_fails}

-- The lines that begin with these bytes.
abbrev pub beginning_with : List ℕ → List (List ℕ) → List (List ℕ)
beginning_with prefix lines = filter (λ (line : List ℕ). starts_with nat_eq line prefix) lines

-- The line of a diagnostic of log `number`.
abbrev pub line_of : List Log → ℕ → OccurrenceValue → List ℕ
line_of logs number one = get_or (texts_of (entries_at number logs)) one.line []

abbrev pub is_some_new : List OccurrenceValue → Bool
is_some_new [] = false
is_some_new (one ∷ others) = true

-- Whether the target of a node newly fails or has a new diagnostic.
abbrev pub has_news : BaselineValue → List Log → Node → Bool
has_news baseline logs node = newly_fails baseline logs node || is_some_new (new_in_log baseline.logs logs node.number)

-- Whether each of these targets ended in the baseline as it does now.
abbrev pub EndAsBefore : BaselineValue → List Log → List Node → Type 0
EndAsBefore baseline logs nodes = AllByRecursion
    (λ (node : Node). outcome_in baseline.nodes (earlier_number baseline.logs logs node.number) ≡ Some (outcome_of node)) nodes
