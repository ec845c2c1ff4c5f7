-- The progress of a viewer, by its visited flags, its writer and its form.
use Rattle.std.specs.Prelude.{◌≡◌, ℕ, Bool, List, [], Some, Result, Ok, Err, map}
use Rattle.redo_logs.specs.Logs.{log_number, targets_of}
use Rattle.redo_logs.specs.Numbering.{Numbering}
use Rattle.redo_options.specs.declared.options.Options.{Options}
use Rattle.redo_view.specs.declared.entry.Visited.{Visited}
use Rattle.redo_view.specs.declared.viewer.ViewFault.{ViewFault}
use Rattle.redo_view.specs.Event.{Event}
use Rattle.redo_view.specs.Expansion.{ViewState, is_among, begin_log, show_log}
use Rattle.redo_view.specs.Form.{bytes_of}
use Rattle.redo_view.specs.Private.Rendering.{Rendering, rendered}
use Rattle.redo_view.specs.Private.WriteResult.{WroteUntilFault}

-- For each of `names`, whether it is among `others`.
abbrev pub flags_of : List (List ℕ) → List (List ℕ) → List Bool
flags_of names others = map (λ name. is_among name others) names

abbrev pub initial_state : ViewState
initial_state = record { named = []; opened = []; events = [] }

module _ (numbering : Numbering) where
  -- Whether the flags state which targets were named and which logs were opened.
  pub record MatchesFlags (visited : Visited) (state : ViewState) : Type 0 where
    pub named : visited.named.items ≡ flags_of numbering.names state.named
    pub opened : visited.opened.items ≡ flags_of (targets_of numbering.logs) state.opened

  -- The log with this number was begun: the flags are correct after it if they were correct before.
  abbrev pub BeginsLog : ℕ → Visited → Visited → Type 0
  BeginsLog number before after =
      (target : List ℕ) (state : ViewState) → log_number target numbering.logs ≡ Some number → MatchesFlags before state
      → MatchesFlags after (begin_log target state)

module _ {F : Type 0} (bytes : F → Event → List ℕ) (after : F → Event → F) (numbering : Numbering) where
  -- Whether the flags do so, and the writer and the form, which were `start` at the start, are as after these events.
  pub record HasShown (start now : Rendering F) (visited : Visited) (state : ViewState) : Type 0 where
    pub flags : MatchesFlags numbering visited state
    pub rendering : now ≡ rendered bytes after start state.events

  -- The shown text, by the result: all of `whole`, or a prefix of its bytes.
  abbrev pub ShowedOrFailed : {A : Type 0} → Rendering F → Rendering F → Visited → ViewState → Result A ViewFault → Type 0
  ShowedOrFailed start now visited whole (Ok done) = HasShown start now visited whole
  ShowedOrFailed start now visited whole (Err fault) = WroteUntilFault start.output now.output (bytes_of bytes after start.form whole.events) fault

  -- The result of showing the log with this number, including all logs that are opened from it.
  abbrev pub ShowedLogOrFailed : {A : Type 0} → Options → ℕ → Visited → Visited → Rendering F → Rendering F → Result A ViewFault → Type 0
  ShowedLogOrFailed options number before visited middle now done =
      (target : List ℕ) (start : Rendering F) (state : ViewState) → log_number target numbering.logs ≡ Some number
      → HasShown start middle before state → ShowedOrFailed start now visited (show_log numbering.logs options target 1 state) done
