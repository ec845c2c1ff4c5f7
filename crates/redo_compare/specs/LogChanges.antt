-- What changed in the log of a target since an earlier build. Each build is given as its logs.
use Rattle.std.specs.Prelude.{ℕ, ◌==◌, Bool, List, Option, Some, map, option_and_then, option_map, slice_get}
use Rattle.std.specs.List.{list_any}
use Rattle.redo_logs.specs.Logs.{Log, log_number, targets_of}
use Rattle.redo_outline.specs.Facts.{entries_at, texts_of}
use Rattle.redo_compare.specs.Changes.{gone_in_target, new_in_target}
use Rattle.redo_compare.specs.Occurrences.{OccurrenceValue, occurrences_of}

-- The diagnostics of log `number`.
abbrev pub diagnostics_in : List Log → ℕ → List OccurrenceValue
diagnostics_in logs number = occurrences_of (texts_of (entries_at number logs))

module _ (earlier logs : List Log) (number : ℕ) where
  -- The number of the earlier log of the same target, if there is one.
  abbrev pub earlier_number : Option ℕ
  earlier_number = option_and_then (λ (target : List ℕ). log_number target earlier) (slice_get (targets_of logs) number)

  abbrev pub earlier_diagnostics : Option (List OccurrenceValue)
  earlier_diagnostics = option_map (diagnostics_in earlier) earlier_number

  -- The diagnostics of log `number` that are new since the earlier build.
  abbrev pub new_in_log : List OccurrenceValue
  new_in_log = new_in_target earlier_diagnostics (Some (diagnostics_in logs number))

  -- The diagnostics of the earlier log that are gone.
  abbrev pub gone_in_log : List OccurrenceValue
  gone_in_log = gone_in_target earlier_diagnostics (Some (diagnostics_in logs number))

  -- Whether a diagnostic of log `number` is new: the line of a new one is its own.
  abbrev pub is_new : OccurrenceValue → Bool
  is_new one = list_any (λ (new : OccurrenceValue). new.line == one.line) new_in_log

  -- For each diagnostic of log `number`, in order: whether it is new.
  abbrev pub are_new : List Bool
  are_new = map is_new (diagnostics_in logs number)
