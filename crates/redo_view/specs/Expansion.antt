-- The events of the requested targets' logs, with the logs that they mention nested in them, and their text: the expansion.
--
-- The requested targets are shown in order, each with its log. Showing a log shows its entries in order. When an entry
-- mentions a target whose log has not been shown yet, that log is shown at this point, one level deeper. Each function takes
-- the state before and returns the state after.
use Rattle.std.specs.Prelude.{ℕ, zero, suc, ◌+◌, Bool, true, false, not, ◌||◌, List, [], ◌∷◌, ◌++◌, length, nat_eq, if◌then◌else◌}
use Rattle.std.specs.List.{flat_map, list_any}
use Rattle.std.specs.Cmp.Lexicographic.{pointwise}
use Rattle.redo_line.specs.declared.entry.Entry.{Entry}
use Rattle.redo_line.specs.declared.entry.Entry.TheVariants.{Mention}
use Rattle.redo_line.specs.declared.entry.How.{How}
use Rattle.redo_line.specs.declared.entry.How.TheVariants.{Unchanged}
use Rattle.redo_logs.specs.Logs.{Log, log_number}
use Rattle.redo_options.specs.declared.options.Options.{Options}
use Rattle.redo_view.specs.declared.event.Opening.{Opening}
use Rattle.redo_view.specs.Event.{Event, opening_of, opens_here}
use Rattle.redo_view.specs.Event.Event.{Requested, Mentioned, EntryShown, LogEnds}
use Rattle.redo_view.specs.Text.{event_text}

-- The state: the targets named and the targets whose logs were opened, both in order of occurrence, and the events shown so far.
pub record ViewState : Type 0 where
  pub named : List (List ℕ)
  pub opened : List (List ℕ)
  pub events : List Event

-- Whether `name` is in `names`.
abbrev pub is_among : List ℕ → List (List ℕ) → Bool
is_among name names = list_any (pointwise nat_eq name) names

-- Appends `name` to `names` unless it is there already.
abbrev pub insert_name : List ℕ → List (List ℕ) → List (List ℕ)
insert_name name names = if is_among name names then names else names ++ name ∷ []

-- Shows one more event.
abbrev pub append_event : Event → ViewState → ViewState
append_event event state = record { named = state.named; opened = state.opened; events = state.events ++ event ∷ [] }

-- ---- mentions

-- Whether a record of this kind counts as a mention. `unchanged` does so only with `options.unchanged`.
abbrev pub is_mention : Options → How → Bool
is_mention options Unchanged = options.unchanged
is_mention options how = true

-- The line of a mention. With `debug_locks` every mention has one, otherwise only if the target is not named yet.
abbrev pub mention_events : Options → ℕ → ℕ → How → List ℕ → Opening → List (List ℕ) → List Event
mention_events options depth pid how name opening named =
    if options.debug_locks || not (is_among name named) then Mentioned depth pid how name opening ∷ [] else []

-- Shows the mention's line and marks its target as named. Does not open the target's log.
abbrev pub show_mention_line : Options → ℕ → ℕ → How → List ℕ → Opening → ViewState → ViewState
show_mention_line options depth pid how name opening state = let shown = mention_events options depth pid how name opening state.named in
    record { named = insert_name name state.named; opened = state.opened; events = state.events ++ shown }

-- ---- logs

-- The entries of `target`'s log; none if it has no log.
abbrev pub entries_of_target : List ℕ → List Log → List Entry
entries_of_target target [] = []
entries_of_target target (log ∷ logs) = if pointwise nat_eq target log.target then log.entries else entries_of_target target logs

-- Marks `target` as named and its log as opened.
abbrev pub begin_log : List ℕ → ViewState → ViewState
begin_log target state = record { named = insert_name target state.named; opened = state.opened ++ target ∷ []; events = state.events }

-- Ends the log whose entries have this depth.
abbrev pub end_log : ℕ → ViewState → ViewState
end_log depth state = append_event (LogEnds depth) state

-- The line of a requested target whose log was not opened before.
abbrev pub request_event : List Log → List ℕ → Event
request_event logs target = Requested target (opening_of true false (log_number target logs))

-- A function that shows the log of a target: from the target, the depth and the state before, it computes the state after.
abbrev pub ShowLog : Type 0
ShowLog = List ℕ → ℕ → ViewState → ViewState

module _ (logs : List Log) (options : Options) where
  -- Whether a mention of `name` opens its log: with `recursive`, if the target has a log that was not opened before.
  abbrev pub mention_opening : List ℕ → ViewState → Opening
  mention_opening name state = opening_of options.recursive (is_among name state.opened) (log_number name logs)

  -- The next three functions are parameterized by `show_nested`, which shows the log of a mentioned target.

  -- Shows a mention: its line, then its target's log one level deeper, if the mention opens it.
  abbrev pub show_mention : ShowLog → ℕ → ℕ → How → List ℕ → ViewState → ViewState
  show_mention show_nested depth pid how name state = let opening = mention_opening name state in
      let mentioned = show_mention_line options depth pid how name opening state in
      if opens_here opening then show_nested name (depth + 1) mentioned else mentioned

  -- Shows one entry.
  abbrev pub show_entry : ShowLog → ℕ → Entry → ViewState → ViewState
  show_entry show_nested depth (Mention pid how name) state =
      if is_mention options how then show_mention show_nested depth pid how name state else state
  show_entry show_nested depth entry state = append_event (EntryShown depth entry) state

  -- Shows entries in order.
  abbrev pub show_entries : ShowLog → ℕ → List Entry → ViewState → ViewState
  show_entries show_nested depth [] state = state
  show_entries show_nested depth (entry ∷ entries) state = show_entries show_nested depth entries (show_entry show_nested depth entry state)

  -- Shows the log of a target, nesting at most `levels` logs; below them nothing is shown. The bound makes the recursion
  -- terminate.
  unfoldable pub show_log_within : ℕ → ShowLog
  show_log_within zero target depth state = state
  show_log_within (suc levels) target depth state =
      end_log depth (show_entries (show_log_within levels) depth (entries_of_target target logs) (begin_log target state))

  -- Shows the log of a target. No log is opened twice, so `length logs + 1` levels always suffice. The law `show_log_equation`
  -- states this function's equation without levels, and that no other function satisfies it.
  unfoldable pub show_log : ShowLog
  show_log target depth state = show_log_within (length logs + 1) target depth state

  -- ---- requested targets

  -- Shows one requested target: its line at depth 0 and its log, or nothing if its log was opened before.
  abbrev pub show_target : List ℕ → ViewState → ViewState
  show_target target state =
      if is_among target state.opened then state else show_log target 1 (append_event (request_event logs target) state)

  -- Shows the requested targets in order.
  abbrev pub show_targets : List (List ℕ) → ViewState → ViewState
  show_targets [] state = state
  show_targets (target ∷ targets) state = show_targets targets (show_target target state)

  -- The state after all requested targets.
  abbrev pub expand : List (List ℕ) → ViewState
  expand requested = show_targets requested (record { named = []; opened = []; events = [] })

  -- The events that are shown for the requested targets.
  abbrev pub shown_events : List (List ℕ) → List Event
  shown_events requested = (expand requested).events

  -- The expansion: the text of these events.
  abbrev pub expansion : List (List ℕ) → List ℕ
  expansion requested = flat_map (event_text options) (shown_events requested)
