-- The expansion in each case of a decision.
use Rattle.std.specs.Prelude.{ℕ, Bool, List, if◌then◌else◌}
use Rattle.redo_line.specs.declared.entry.How.{How}
use Rattle.redo_logs.specs.Logs.{Log}
use Rattle.redo_options.specs.declared.options.Options.{Options}
use Rattle.redo_view.specs.Expansion.{ShowLog, ViewState, append_event, request_event, show_mention, show_log}

module _ (logs : List Log) (options : Options) where
  -- Opens the log of a mentioned target, or doesn't.
  abbrev pub show_log_if : Bool → ShowLog → List ℕ → ℕ → ViewState → ViewState
  show_log_if should_open show_nested name depth state = if should_open then show_nested name depth state else state

  -- Shows a record if it counts as a mention; otherwise it shows nothing.
  abbrev pub show_mention_if : Bool → ShowLog → ℕ → ℕ → How → List ℕ → ViewState → ViewState
  show_mention_if is_mention show_nested depth pid how name state =
      if is_mention then show_mention logs options show_nested depth pid how name state else state

  -- Shows a requested target, or nothing if its log was opened before.
  abbrev pub show_target_unless : Bool → List ℕ → ViewState → ViewState
  show_target_unless opened target state = if opened then state else show_log logs options target 1 (append_event (request_event logs target) state)
